-- Fields that give the value are the candidate's.
use Rattle.std.proofs.Common.{◌≡◌, ℕ, ◌∙◌, sym, ap, arith, Some}
use Rattle.std.proofs.lemmas.Bool.{false≢true}
use Rattle.emu_bits.specs.Fields.{bit}
use Rattle.emu_bits.specs.Bitmask.{bitmask_of}
use Rattle.emu_bits.specs.Search.{Part, shrunk, first_log, guess_immr}
use Rattle.emu_bits.proofs.Elements.{bit_small}
use Rattle.emu_bits.proofs.AllBelow.{option_is, is_option}
use Rattle.emu_bits.proofs.Search.{known}
use Rattle.emu_bits.proofs.bitmasks.bitmask_fields.Goals as goal

pub returns-then-eq-clause-fields : goal.returns-then-eq-clause-fields
returns-then-eq-clause-fields c = record {
  gives = record {
    flag = bit_small c.candidate-n.result.0;
    rotation = c.candidate-n.ensures.small.0;
    size = c.candidate-n.ensures.small.1;
    gives = sym c.bitmask.ensures ∙ option_is c.bitmask.result c.args.value (sym c.eq.ensures ∙ c.if-eq.true);
  };
  least = λ m r s g.
      let k = known c.args.width c.args.value m r s c.requires g in (
        sym (c.candidate-n.ensures.n ∙ k.n_is),
        omega (arith, k.least, c.candidate-n.ensures.immr),
        sym (c.candidate-n.ensures.imms ∙ k.imms_is),
      );
}

pub returns-else-eq-clause-none : goal.returns-else-eq-clause-none
returns-else-eq-clause-none c = λ n immr imms g.
    let k = known c.args.width c.args.value n immr imms c.requires g in
    let m : Part = shrunk (first_log c.args.width) c.args.value in
    let a : bit c.candidate-n.result.0 ≡ n = c.candidate-n.ensures.n ∙ k.n_is in
    let b : c.candidate-n.result.2 ≡ imms = c.candidate-n.ensures.imms ∙ k.imms_is in
    let e : c.bitmask.result ≡ Some c.args.value =
    c.bitmask.ensures
    ∙ ap (λ (x : ℕ). bitmask_of c.args.width x c.candidate-n.result.1 c.candidate-n.result.2) a
    ∙ ap (λ (x : ℕ). bitmask_of c.args.width n x c.candidate-n.result.2) c.candidate-n.ensures.immr
    ∙ ap (λ (x : ℕ). bitmask_of c.args.width n (guess_immr m) x) b
    ∙ k.gives in
    false≢true (sym c.if-eq.false ∙ c.eq.ensures ∙ is_option c.bitmask.result c.args.value e)
