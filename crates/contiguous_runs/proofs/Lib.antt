mod FirstBytes
mod PartByPart
