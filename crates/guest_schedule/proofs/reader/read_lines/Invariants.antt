use Rattle.std.proofs.Common.{◌≡◌, ◌+◌, drop, map}
use Rattle.std.specs.Prelude.{IsTrue}
use Rattle.std.specs.List.{list_all}
use Rattle.line_words.specs.Refusals.{read_lines}
use Rattle.guest_schedule.specs.Schedule.{fault_at, read_line}
use Rattle.guest_schedule.specs.Turns.{has_steps}
use Rattle.guest_schedule.proofs.reader.read_lines.Given as goal

-- what the lines that are left say behind those before is what they all say
abbrev pub invariant-loop-place : goal.invariant-loop-place
invariant-loop-place l = record {
  reads : read_lines fault_at read_line l.turns.items (l.place + 1) (drop l.place (map (λ line. line.now) l.lines)) ≡ read_lines fault_at read_line l.fn.turns.items 1 (map (λ line. line.now) l.lines);
  steps : IsTrue (list_all has_steps l.turns.items);
}
