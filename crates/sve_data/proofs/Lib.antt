mod Places
mod SameRows
