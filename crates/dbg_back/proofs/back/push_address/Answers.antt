use Rattle.std.proofs.Common.{ℕ, List, ◌++◌, codes, ap, ◌∙◌, append_assoc}
use Rattle.emu_run.specs.Text.{hex}
use Rattle.dbg_back.proofs.back.push_address.Goals as goal

pub returns-clause-text : goal.returns-clause-text
returns-clause-text c =
    c.push_hex.ensures.text ∙ ap (λ (l : List ℕ). l ++ hex 16 c.args.address) c.push.ensures.text ∙ append_assoc c.args.text.now (codes "0x") (hex 16 c.args.address)
