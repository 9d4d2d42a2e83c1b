use Rattle.std.proofs.Common.{ℕ, ◌+◌, ◌*◌, ◌++◌, string_bytes, ap, ◌∙◌}
use Rattle.emu_model.specs.Access.{address}
use Rattle.emu_report.proofs.Lines.{lines_appended}
use Rattle.debug_shows.specs.Memory.{line_text}
use Rattle.debug_shows.proofs.memory.push_lines.Goals as goal

pub lines-preserved : goal.lines-preserved
lines-preserved c =
    lines_appended _ _ _ (λ k. line_text c.args.symbols.now c.args.mem.now.memory c.args.pc (address (c.args.address + 4 * k))) c.lines.k c.lines.invariant
    (c.in_ok-push_line.ensures ∙ ap (λ (i : ℕ). string_bytes c.lines.text ++ line_text c.args.symbols.now c.args.mem.now.memory c.args.pc (address (c.args.address + 4 * i))) c.from.ensures)
