use Rattle.std.proofs.Common.{ℕ, codes, ap}
use Rattle.emu_run.specs.Text.{hex}
use Rattle.debug_shows.proofs.Pieces.{ok_both}
use Rattle.debug_shows.proofs.places.push_plain.Goals as goal

pub returns : goal.returns
returns c = ok_both c.push_digits.result _ _ _ (codes ".word 0x") _ (hex 8 c.args.word) (ap (λ (v : ℕ). hex 8 v) c.from.ensures) c.in_ok-push_str.ensures.bytes c.push_digits.ensures
