use Rattle.std.proofs.Common.{◌≡◌}
use Rattle.command_model.specs.Refusals.{schedule_line}
use Rattle.emu_report.proofs.Puts.{puts_equal}
use Rattle.emu_report.proofs.refusals.put_schedule_refusal.Goals as goal

pub returns-clause-bytes : goal.returns-clause-bytes
returns-clause-bytes g c =
    let e : c.push_line_number.new.text ≡ schedule_line c.args.f.now = rw (c.push_line_number.ensures, c.push-2.ensures.text, c.push.ensures.text, c.new-text.ensures, c.as_bytes.ensures.value, c.schedule_name.ensures.name) in
    puts_equal _ _ _ _ _ e c.put.ensures.bytes
