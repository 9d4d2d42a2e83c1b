use Rattle.std.proofs.Common.{◌≡◌, ◌+◌, ℕ, ◌++◌, flat_map, string_bytes, refl, subst, arith}
use Rattle.std.specs.List.{range_with_len}
use Rattle.command_model.specs.Listing.{later_number}
use Rattle.command_model.proofs.Appended.{appended_more, appended_none}
use Rattle.command_model.proofs.listing.push_later_numbers.Goals as goal

pub numbers-init : goal.numbers-init
numbers-init c = appended_none (string_bytes c.args.text.now)

pub numbers-preserved : goal.numbers-preserved
numbers-preserved c =
    appended_more (later_number c.args.number) c.args.from c.numbers.i (c.args.from + c.numbers.i) (string_bytes c.args.text.now) (string_bytes c.numbers.text) _ refl c.numbers.invariant c.in_ok-push_later_number.ensures

pub returns : goal.returns
returns c =
    let end : c.numbers.i ≡ 7 = omega (arith, c.numbers.auto.i-end, c.numbers-test.false) in
    subst (λ (n : ℕ). string_bytes c.numbers.text ≡ string_bytes c.args.text.now ++ flat_map (later_number c.args.number) (range_with_len c.args.from n)) end c.numbers.invariant
