use Rattle.std.proofs.Common.{◌≡◌, ◌<◌, length, sym, ap, arith}
use Rattle.std.specs.Char.{to_ascii_lowercase}
use Rattle.std.proofs.lemmas.List.{length-map}
use Rattle.text_model.specs.Statement.{lowered}
use Rattle.text_code.specs.Names.{names_of}
use Rattle.text_code.proofs.Index.{long_name}
use Rattle.text_code.proofs.names.spots_of.Goals as goal

pub returns-in-None : goal.returns-in-None
returns-in-None c =
    let e : c.as_bytes.result.now ≡ c.args.name.now = c.as_bytes.ensures.value in
    let n : 12 < length c.as_bytes.result.now = c.in-None.ensures in
    let l : 12 < length c.args.name.now = let k = ap length e in omega (arith, n, k) in
    let m : length (lowered c.args.name.now) ≡ length c.args.name.now = length-map c.args.name.now to_ascii_lowercase in
    sym (long_name (names_of c.args.names.now) (lowered c.args.name.now) c.requires (omega (arith, l, m)))
