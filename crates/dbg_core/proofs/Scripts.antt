-- The commands that are left of a script.
use Rattle.std.proofs.Common.{◌≡◌, ◌<◌, ◌≤◌, ℕ, suc, ◌+◌, true, false, List, [], ◌∷◌, length, drop, drop-cons, Option, Some, count_by, cond, sym, ap, subst, ◌∙◌, refl, arith, length-append}
use Rattle.std.specs.List.{list_all}
use Rattle.std.specs.Prelude.{slice_get}
use Rattle.std.proofs.lemmas.List.{drop_all}
use Rattle.std.proofs.lemmas.List.Folds.{list_all_at}
use Rattle.std.proofs.lemmas.List.Sums.{sum_by-cons}
use Rattle.std.proofs.lemmas.Option.{get_or_from_slice_get}
use Rattle.emu_model.specs.State.{Parts, State}
use Rattle.emu_system.specs.Start.{with_input}
use Rattle.dbg_model.specs.declared.script.Command.{Command}
use Rattle.dbg_model.specs.declared.script.Command.TheVariants.{Step, Go, Break, Watch, Regs, Vl, Zreg, Preg, Ffr, Lanes, Mem, Back}
use Rattle.dbg_model.specs.Commands.{is_break, is_watch}
use Rattle.dbg_model.specs.ScriptLimits.{is_within}
use Rattle.dbg_model.specs.Session.{Points, with_point, command_text}
use Rattle.dbg_model.specs.Forward.{obeyed, obeyed_all}
use Rattle.dbg_core.specs.declared.ends.SessionEnd.{SessionEnd}
use Rattle.dbg_core.specs.declared.ends.SessionEnd.TheVariants.{Done}
use Rattle.dbg_core.specs.Ends.{Obeys, TakesPoint, is_fault}
use Rattle.emu_machine.proofs.Composed.{Comes, Leads, comes_cut, comes_still, comes_when, leads_on, leads_end}
use Rattle.dbg_core.proofs.Sessions.{prints, all_blind, all_moving, obeyed_moving}
use Rattle.dbg_core.proofs.Obeying.{comes_of, not_done, obeys_of}

-- the command at a place stands before the rest
pub next_command : (commands : List Command) (k : ℕ) (command : Command) → slice_get commands k ≡ Some command → k < length commands → drop k commands ≡ command ∷ drop (k + 1) commands
next_command commands k command is within =
    let one : suc k ≡ k + 1 = omega arith in
    drop-cons commands k command within ∙ ap (λ (c : Command). c ∷ drop (suc k) commands) (get_or_from_slice_get commands k command command is) ∙ ap (λ (n : ℕ). command ∷ drop n commands) one

-- and its numbers are in its ranges
pub command_in : (commands : List Command) (k : ℕ) (command : Command) → list_all is_within commands ≡ true → slice_get commands k ≡ Some command → k < length commands → is_within command ≡ true
command_in commands k command all is within =
    elim (is_within command) as (λ b. is_within command ≡ b → is_within command ≡ true) [
      | true ↦ λ h. h
      | false ↦ λ h.
          let none : list_all is_within commands ≡ false = list_all_at is_within commands k command within (ap is_within (get_or_from_slice_get commands k command command is) ∙ h) in
          let both : true ≡ false = sym all ∙ none in cc
    ] refl

-- ---- room for points

one_break : (address : ℕ) (rest : List Command) → count_by is_break (Break address ∷ rest) ≡ 1 + count_by is_break rest
one_break address rest = sum_by-cons (λ (x : Command). cond (is_break x) 1 0) (Break address) rest

one_watch : (address count : ℕ) (rest : List Command) → count_by is_watch (Watch address count ∷ rest) ≡ 1 + count_by is_watch rest
one_watch address count rest = sum_by-cons (λ (x : Command). cond (is_watch x) 1 0) (Watch address count) rest

pub room_left : (points : Points) (command : Command) (rest : List Command) → length points.breaks + count_by is_break (command ∷ rest) ≤ 64 → length points.watches + count_by is_watch (command ∷ rest) ≤ 64 → TakesPoint points command
room_left points (Step n) rest b w = tt
room_left points Go rest b w = tt
room_left points (Break address) rest b w = omega (arith, b, one_break address rest)
room_left points (Watch address count) rest b w = omega (arith, w, one_watch address count rest)
room_left points Regs rest b w = tt
room_left points Vl rest b w = tt
room_left points (Zreg k) rest b w = tt
room_left points (Preg k) rest b w = tt
room_left points Ffr rest b w = tt
room_left points (Lanes k size) rest b w = tt
room_left points (Mem address count) rest b w = tt
room_left points (Back k) rest b w = tt

pub breaks_left : (points : Points) (command : Command) (rest : List Command) → length points.breaks + count_by is_break (command ∷ rest) ≤ 64 → length (with_point command points).breaks + count_by is_break rest ≤ 64
breaks_left points (Step n) rest b = b
breaks_left points Go rest b = b
breaks_left points (Break address) rest b =
    let more : length (with_point (Break address) points).breaks ≡ length points.breaks + 1 = length-append points.breaks (address ∷ []) in
    omega (arith, b, more, one_break address rest)
breaks_left points (Watch address count) rest b = b
breaks_left points Regs rest b = b
breaks_left points Vl rest b = b
breaks_left points (Zreg k) rest b = b
breaks_left points (Preg k) rest b = b
breaks_left points Ffr rest b = b
breaks_left points (Lanes k size) rest b = b
breaks_left points (Mem address count) rest b = b
breaks_left points (Back k) rest b = b

pub watches_left : (points : Points) (command : Command) (rest : List Command) → length points.watches + count_by is_watch (command ∷ rest) ≤ 64 → length (with_point command points).watches + count_by is_watch rest ≤ 64
watches_left points (Step n) rest w = w
watches_left points Go rest w = w
watches_left points (Break address) rest w = w
watches_left points (Watch address count) rest w =
    let more : length (with_point (Watch address count) points).watches ≡ length points.watches + 1 = length-append points.watches (record { address = address; count = count } ∷ []) in
    omega (arith, w, more, one_watch address count rest)
watches_left points Regs rest w = w
watches_left points Vl rest w = w
watches_left points (Zreg k) rest w = w
watches_left points (Preg k) rest w = w
watches_left points Ffr rest w = w
watches_left points (Lanes k size) rest w = w
watches_left points (Mem address count) rest w = w
watches_left points (Back k) rest w = w

-- ---- the loop

module _ (f : State → State) (commands : List Command) (command : Command) (points : Points) (budget : ℕ) (old p q : Parts) (told left_p left_q ho hp hq eo ep eq : Option (List ℕ))
    (led : Leads f (obeyed_all (command ∷ commands) points budget) old p told left_p ho hp eo ep) where
  -- the command was obeyed
  pub command_done : Comes (obeyed command points budget) p q left_p left_q hp hq ep eq false → Leads f (obeyed_all commands (with_point command points) budget) old q told left_q ho hq eo eq
  command_done c =
      leads_on f (obeyed_all (command ∷ commands) points budget) old p q left_p left_q ho hp hq eo ep eq told (obeyed command points budget) (obeyed_all commands (with_point command points) budget)
      (all_blind commands (with_point command points) budget) (obeyed_moving command points budget) (λ input is. refl) led c

  -- it was broken off
  pub command_broken : (end : SessionEnd) → (end ≡ Done → ⊥) → Obeys (obeyed command points budget) p q left_p left_q hp hq ep eq end → Obeys f old q told left_q ho hq eo eq end
  command_broken end other o =
      let b = not_done end other in
      let whole : State → State = obeyed_all (command ∷ commands) points budget in
      obeys_of f old q told left_q ho hq eo eq end
      (leads_end f whole old p q left_p left_q ho hp hq eo ep eq told (is_fault end) (all_moving (command ∷ commands) points budget) led
      (comes_when whole p q left_p left_q hp hq ep eq true (is_fault end) (sym b)
      (comes_cut (obeyed command points budget) whole p q left_p left_q hp hq ep eq (λ input. all_moving commands (with_point command points) budget (obeyed command points budget (with_input p input)))
      (comes_when (obeyed command points budget) p q left_p left_q hp hq ep eq (is_fault end) true b (comes_of (obeyed command points budget) p q left_p left_q hp hq ep eq end o)))))

-- no command is left
pub commands_done : (f : State → State) (points : Points) (budget : ℕ) (old p : Parts) (told left_p ho hp eo ep : Option (List ℕ)) → Leads f (obeyed_all [] points budget) old p told left_p ho hp eo ep → Obeys f old p told left_p ho hp eo ep Done
commands_done f points budget old p told left_p ho hp eo ep led =
    obeys_of f old p told left_p ho hp eo ep Done
    (leads_end f (obeyed_all [] points budget) old p p left_p left_p ho hp hp eo ep ep told false (all_moving [] points budget) led (comes_still p left_p hp ep))

-- ---- the same, of the command at a place of a script

module _ (script : List Command) (k : ℕ) (command : Command) (is : slice_get script k ≡ Some command) (within : k < length script) where
  pub room_at : (points : Points) → length points.breaks + count_by is_break (drop k script) ≤ 64 → length points.watches + count_by is_watch (drop k script) ≤ 64 → TakesPoint points command
  room_at points b w =
      let cut = next_command script k command is within in
      room_left points command (drop (k + 1) script) (subst (λ (cs : List Command). length points.breaks + count_by is_break cs ≤ 64) cut b) (subst (λ (cs : List Command). length points.watches + count_by is_watch cs ≤ 64) cut w)

  pub breaks_at : (points more : Points) → more ≡ with_point command points → length points.breaks + count_by is_break (drop k script) ≤ 64 → length more.breaks + count_by is_break (drop (k + 1) script) ≤ 64
  breaks_at points more added b =
      let cut = next_command script k command is within in
      subst (λ (m : Points). length m.breaks + count_by is_break (drop (k + 1) script) ≤ 64) (sym added)
      (breaks_left points command (drop (k + 1) script) (subst (λ (cs : List Command). length points.breaks + count_by is_break cs ≤ 64) cut b))

  pub watches_at : (points more : Points) → more ≡ with_point command points → length points.watches + count_by is_watch (drop k script) ≤ 64 → length more.watches + count_by is_watch (drop (k + 1) script) ≤ 64
  watches_at points more added w =
      let cut = next_command script k command is within in
      subst (λ (m : Points). length m.watches + count_by is_watch (drop (k + 1) script) ≤ 64) (sym added)
      (watches_left points command (drop (k + 1) script) (subst (λ (cs : List Command). length points.watches + count_by is_watch cs ≤ 64) cut w))

  module _ (f : State → State) (points : Points) (budget : ℕ) (old p q : Parts) (told left_p left_q ho hp hq eo ep eq : Option (List ℕ))
      (led : Leads f (obeyed_all (drop k script) points budget) old p told left_p ho hp eo ep) where
    pub done_at : (more : Points) → more ≡ with_point command points → Obeys (obeyed command points budget) p q left_p left_q hp hq ep eq Done → Leads f (obeyed_all (drop (k + 1) script) more budget) old q told left_q ho hq eo eq
    done_at more added o =
        let rest : List Command = drop (k + 1) script in
        let cut = next_command script k command is within in
        let before : Leads f (obeyed_all (command ∷ rest) points budget) old p told left_p ho hp eo ep = subst (λ (cs : List Command). Leads f (obeyed_all cs points budget) old p told left_p ho hp eo ep) cut led in
        subst (λ (m : Points). Leads f (obeyed_all rest m budget) old q told left_q ho hq eo eq) (sym added)
        (command_done f rest command points budget old p q told left_p left_q ho hp hq eo ep eq before (comes_of (obeyed command points budget) p q left_p left_q hp hq ep eq Done o))

    pub broken_at : (end : SessionEnd) → (end ≡ Done → ⊥) → Obeys (obeyed command points budget) p q left_p left_q hp hq ep eq end → Obeys f old q told left_q ho hq eo eq end
    broken_at end other o =
        let rest : List Command = drop (k + 1) script in
        let cut = next_command script k command is within in
        let before : Leads f (obeyed_all (command ∷ rest) points budget) old p told left_p ho hp eo ep = subst (λ (cs : List Command). Leads f (obeyed_all cs points budget) old p told left_p ho hp eo ep) cut led in
        command_broken f rest command points budget old p q told left_p left_q ho hp hq eo ep eq before end other o

-- no command is left
pub all_done : (f : State → State) (script : List Command) (k : ℕ) (points : Points) (budget : ℕ) (old p : Parts) (told left_p ho hp eo ep : Option (List ℕ)) → length script ≤ k
    → Leads f (obeyed_all (drop k script) points budget) old p told left_p ho hp eo ep → Obeys f old p told left_p ho hp eo ep Done
all_done f script k points budget old p told left_p ho hp eo ep over led =
    commands_done f points budget old p told left_p ho hp eo ep (subst (λ (cs : List Command). Leads f (obeyed_all cs points budget) old p told left_p ho hp eo ep) (drop_all k script over) led)

-- a command that doesn't move the machine
pub shows : (command : Command) (points : Points) (budget : ℕ) → ((n : ℕ) → command ≡ Step n → ⊥) → (command ≡ Go → ⊥) → (st : State) → prints (command_text command) st ≡ obeyed command points budget st
shows (Step n) points budget no_step no_go st = absurd (no_step n refl)
shows Go points budget no_step no_go st = absurd (no_go refl)
shows (Break address) points budget no_step no_go st = refl
shows (Watch address count) points budget no_step no_go st = refl
shows Regs points budget no_step no_go st = refl
shows Vl points budget no_step no_go st = refl
shows (Zreg k) points budget no_step no_go st = refl
shows (Preg k) points budget no_step no_go st = refl
shows Ffr points budget no_step no_go st = refl
shows (Lanes k size) points budget no_step no_go st = refl
shows (Mem address count) points budget no_step no_go st = refl
shows (Back k) points budget no_step no_go st = refl
