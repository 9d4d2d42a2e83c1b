use Rattle.std.proofs.Common.{ℕ, Option, get_or, ap, ◌%◌, ◌∙◌}
use Rattle.std.specs.Prelude.{unwrap_or}
use Rattle.emu_model.specs.Access.{Page, page_of, page_size}
use Rattle.trace_lines.proofs.Words.{or_zero}
use Rattle.trace_lines.proofs.head.byte_at.Goals as goal

pub returns : goal.returns
returns c =
    c.unwrap_or.ensures ∙ ap (λ (o : Option ℕ). unwrap_or o 0) c.peek.ensures
    ∙ or_zero (page_of c.args.mem.now.memory c.args.address) (λ (p : Page). get_or p.bytes (c.args.address % page_size) 0)
