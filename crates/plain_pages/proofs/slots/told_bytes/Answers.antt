use Rattle.page_list.proofs.Bytes.{are_bytes}
use Rattle.plain_pages.proofs.slots.told_bytes.Goals as goal

pub returns-clause-bytes : goal.returns-clause-bytes
returns-clause-bytes c = are_bytes c.args.bytes.now (λ k. (c.type_inv.bytes k).fits)
