use Rattle.std.proofs.Common.{Some, None, refl, sym, ap, ◌∙◌, ◌%◌, ℕ}
use Rattle.guest_threads.specs.Ends.{WorldHeld}
use Rattle.emu_run.specs.ThreadCall.{all_gone, with_gone}
use Rattle.guest_threads.proofs.Made.{made_leave, ended_all, ended_some, gone_room}
use Rattle.guest_threads.proofs.held.Held.exit.Goals as goal

pub count_step-requires : goal.count_step-requires
count_step-requires c = gone_room c.args.self.now c.requires c.stand.new.self c.clear_word.new.self c.stand.ensures c.clear_word.ensures

pub returns-then-is_left : goal.returns-then-is_left
returns-then-is_left c =
    let all = sym c.is_left.ensures ∙ c.if-is_left.true in
    made_leave c.args.self.now c.requires (Some _) _ c.stand.new.self c.clear_word.new.self c.count_step.new.self c.stand.ensures c.clear_word.ensures c.count_step.ensures
    (ended_all c.args.self.now c.requires (with_gone c.args.self.now.world c.args.self.now.world.last) _ _ (sym (ap (λ (x : WorldHeld). all_gone x.world) c.stand.ensures) ∙ all) (ap (λ (n : ℕ). n % 256) c.argument-value.ensures)) refl

pub count_step-requires-2 : goal.count_step-requires-2
count_step-requires-2 c = gone_room c.args.self.now c.requires c.stand.new.self c.clear_word-2.new.self c.stand.ensures c.clear_word-2.ensures

pub returns : goal.returns
returns c =
    let some = sym c.is_left.ensures ∙ c.if-is_left.false in
    made_leave c.args.self.now c.requires None _ c.stand.new.self c.clear_word-2.new.self c.count_step-2.new.self c.stand.ensures c.clear_word-2.ensures c.count_step-2.ensures
    (ended_some c.args.self.now c.requires _ (sym (ap (λ (x : WorldHeld). all_gone x.world) c.stand.ensures) ∙ some)) refl
