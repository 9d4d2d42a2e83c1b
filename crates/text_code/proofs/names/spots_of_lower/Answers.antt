use Rattle.std.proofs.Common.{ℕ, List, Ok, Err, rules, tests, sym}
use Rattle.std.proofs.lemmas.Fn.{always_returns_same}
use Rattle.std.specs.Cmp.Lexicographic.{slice_cmp}
use Rattle.std.specs.Ordering.{nat_cmp}
use Rattle.text_code.specs.declared.patterns.Name.{Name}
use Rattle.text_code.proofs.Index.{looked_up_name}
use Rattle.text_code.proofs.names.spots_of_lower.Goals as goal

pub returns-in-Ok : goal.returns-in-Ok
returns-in-Ok c =
    let ns : List Name = c.args.names.now in
    let s : List ℕ = c.args.name.now in
    let p = c.in-Ok.ensures.position (λ (n : Name). slice_cmp nat_cmp n.name.now s) (always_returns_same _ _ _ (λ a r q k. search (rules, tests))) in
    sym (looked_up_name ns s (Ok c.in-Ok.at) c.requires c.in-Ok.ensures.bound p _)

pub returns-in-Err : goal.returns-in-Err
returns-in-Err c =
    let ns : List Name = c.args.names.now in
    let s : List ℕ = c.args.name.now in
    let p = c.in-Err.ensures.position (λ (n : Name). slice_cmp nat_cmp n.name.now s) (always_returns_same _ _ _ (λ a r q k. search (rules, tests))) in
    sym (looked_up_name ns s (Err c.in-Err.field-0) c.requires c.in-Err.ensures.bound p)
