-- Commands that only show.
use Rattle.std.proofs.Common.{◌≡◌, ℕ, refl}
use Rattle.emu_model.specs.State.{State}
use Rattle.dbg_model.specs.declared.script.Command.{Command}
use Rattle.dbg_model.specs.declared.script.Command.TheVariants.{Step, Go, Break, Watch, Regs, Vl, Zreg, Preg, Ffr, Lanes, Mem, Back}
use Rattle.dbg_model.specs.Session.{Points, Course, obeyed, printed}
use Rattle.dbg_core.specs.Stops.{shown_behind}

-- a command that doesn't move the machine
pub shows : (command : Command) (points : Points) (budget : ℕ) → ((n : ℕ) → command ≡ Step n → ⊥) → (command ≡ Go → ⊥) → ((k : ℕ) → command ≡ Back k → ⊥) → (start : State) (c : Course)
    → printed (shown_behind command) c ≡ obeyed start command points budget c
shows (Step n) points budget no_step no_go no_back start c = absurd (no_step n refl)
shows Go points budget no_step no_go no_back start c = absurd (no_go refl)
shows (Break address) points budget no_step no_go no_back start c = refl
shows (Watch address count) points budget no_step no_go no_back start c = refl
shows Regs points budget no_step no_go no_back start c = refl
shows Vl points budget no_step no_go no_back start c = refl
shows (Zreg k) points budget no_step no_go no_back start c = refl
shows (Preg k) points budget no_step no_go no_back start c = refl
shows Ffr points budget no_step no_go no_back start c = refl
shows (Lanes k size) points budget no_step no_go no_back start c = refl
shows (Mem address count) points budget no_step no_go no_back start c = refl
shows (Back k) points budget no_step no_go no_back start c = absurd (no_back k refl)
