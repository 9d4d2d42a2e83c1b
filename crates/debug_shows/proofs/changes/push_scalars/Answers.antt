use Rattle.std.proofs.Common.{ℕ, codes, ap, ◌∙◌}
use Rattle.emu_run.specs.Registers.{lines_of}
use Rattle.debug_shows.specs.Changes.{word_change, x_change}
use Rattle.debug_shows.proofs.Pieces.{ok_both}
use Rattle.debug_shows.proofs.changes.push_scalars.Goals as goal

pub returns : goal.returns
returns c =
    ok_both c.push_word.result _ _ _ (lines_of 31 (x_change c.args.old.now c.args.new.now)) _ (word_change (codes "sp") c.args.old.now.sp c.args.new.now.sp)
    (ap (λ (v : ℕ). word_change (codes "sp") v c.sp_of-2.result) c.sp_of.ensures ∙ ap (λ (v : ℕ). word_change (codes "sp") c.args.old.now.sp v) c.sp_of-2.ensures)
    c.in_ok-push_xs.ensures c.push_word.ensures
