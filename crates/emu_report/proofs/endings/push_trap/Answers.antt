use Rattle.std.proofs.Common.{ℕ, List, ◌++◌, codes, ap, ◌∙◌}
use Rattle.emu_run.specs.Reports.{address_text, trap_name}
use Rattle.emu_report.proofs.Pieces.{appended_six}
use Rattle.emu_report.proofs.endings.push_trap.Goals as goal

pub returns-clause-text : goal.returns-clause-text
returns-clause-text c =
    let t = c.args.t.now in
    appended_six _ _ _ _ _ _ _ (codes "trap ") (trap_name t.kind) (codes " ") (address_text t.address) (codes " at ") (address_text c.args.pc)
    c.push.ensures.text (c.push-2.ensures.text ∙ ap (λ (xs : List ℕ). c.push.new.self ++ xs) (c.as_bytes.ensures.value ∙ c.trap_name.ensures.name))
    c.push-3.ensures.text c.push_address.ensures.text c.push-4.ensures.text c.push_address-2.ensures.text
