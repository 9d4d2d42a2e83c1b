use Rattle.std.proofs.Common.{◌≡◌, List, ℕ, ◌++◌, ap, codes, ◌∙◌}
use Rattle.command_model.specs.Refusals.{image_line}
use Rattle.emu_run.specs.Text.{newline}
use Rattle.emu_system.specs.declared.image.ElfFault.{ElfFault}
use Rattle.emu_report.specs.FaultNames.{at_index, fault_index, fault_name, text_in_parts}
use Rattle.emu_report.proofs.Puts.{puts_equal}
use Rattle.emu_report.proofs.refusals.put_image_refusal.Goals as goal

-- the line of a refused image in the parts that are put
line_in_parts : (f : ElfFault) → codes "refused image " ++ ((fault_name f ++ at_index (fault_index f)) ++ newline) ≡ image_line f
line_in_parts f = ap (λ (text : List ℕ). codes "refused image " ++ (text ++ newline)) (text_in_parts f)

pub returns-clause-bytes : goal.returns-clause-bytes
returns-clause-bytes g c =
    let f = c.args.f.now in
    let parts : c.push-3.new.self ≡ codes "refused image " ++ ((fault_name f ++ at_index (fault_index f)) ++ newline) = rw (c.push-3.ensures.text, c.push_index.ensures.text, c.push-2.ensures.text, c.push.ensures.text, c.new-text.ensures, c.fault_index.ensures, c.as_bytes.ensures.value, c.fault_name.ensures.name) in
    puts_equal _ _ _ _ _ (parts ∙ line_in_parts f) c.put.ensures.bytes
