use Rattle.std.proofs.Common.{ℕ, ◌+◌, ◌*◌, sym, ap, ◌∙◌}
use Rattle.a64_insn.specs.declared.form.A64Form.{A64Form}
use Rattle.emu_model.specs.Access.{address}
use Rattle.emu_model.specs.State.{read_x_sp}
use Rattle.a64_effects.specs.Groups.{load_store}
use Rattle.a64_effects.specs.LoadStore.{base_and_imm9, indexed, transferred_by, unchanged, written_back}
use Rattle.a64_effects.specs.Operations.{one_transfer}
use Rattle.a64_flow.proofs.rows.access.Goals as goal

pub returns-in-LsUnsigned-clause-done : goal.returns-in-LsUnsigned-clause-done
returns-in-LsUnsigned-clause-done c =
    ap (λ (f : A64Form). load_store f c.args.core.now c.args.vec.now c.args.mem.now.memory) (sym c.form.ensures.form ∙ c.in-LsUnsigned.is)
    ∙ ap (λ (a : ℕ). transferred_by (one_transfer c.in-LsUnsigned.v c.in-LsUnsigned.size c.in-LsUnsigned.opc c.in-LsUnsigned.rn c.in-LsUnsigned.rt a unchanged) c.args.core.now c.args.vec.now c.args.mem.now.memory)
    (ap (λ (n : ℕ). address (read_x_sp c.args.core.now c.in-LsUnsigned.rn + n * c.in-LsUnsigned.imm12)) (sym c.access_bytes.ensures.value) ∙ sym c.scaled_near-at.ensures)
    ∙ c.single_at.ensures.done

pub returns-in-LsUnscaled-clause-done : goal.returns-in-LsUnscaled-clause-done
returns-in-LsUnscaled-clause-done c =
    ap (λ (f : A64Form). load_store f c.args.core.now c.args.vec.now c.args.mem.now.memory) (sym c.form.ensures.form ∙ c.in-LsUnscaled.is)
    ∙ ap (λ (a : ℕ). transferred_by (one_transfer c.in-LsUnscaled.v c.in-LsUnscaled.size c.in-LsUnscaled.opc c.in-LsUnscaled.rn c.in-LsUnscaled.rt a unchanged) c.args.core.now c.args.vec.now c.args.mem.now.memory) (sym c.near-at.ensures)
    ∙ c.single_at-in-LsUnscaled.ensures.done

pub returns-in-LsReg-clause-done : goal.returns-in-LsReg-clause-done
returns-in-LsReg-clause-done c =
    ap (λ (f : A64Form). load_store f c.args.core.now c.args.vec.now c.args.mem.now.memory) (sym c.form.ensures.form ∙ c.in-LsReg.is)
    ∙ ap (λ (a : ℕ). transferred_by (one_transfer c.in-LsReg.v c.in-LsReg.size c.in-LsReg.opc c.in-LsReg.rn c.in-LsReg.rt a unchanged) c.args.core.now c.args.vec.now c.args.mem.now.memory)
    (ap (λ (n : ℕ). indexed c.args.core.now c.in-LsReg.rn c.in-LsReg.rm c.in-LsReg.ext c.in-LsReg.s n) (sym c.access_bytes-in-LsReg.ensures.value) ∙ sym c.indexed-at.ensures)
    ∙ c.single_at-in-LsReg.ensures.done

pub returns-in-LsPost-clause-done : goal.returns-in-LsPost-clause-done
returns-in-LsPost-clause-done c =
    ap (λ (f : A64Form). load_store f c.args.core.now c.args.vec.now c.args.mem.now.memory) (sym c.form.ensures.form ∙ c.in-LsPost.is)
    ∙ ap (λ (a : ℕ). transferred_by (one_transfer c.in-LsPost.v c.in-LsPost.size c.in-LsPost.opc c.in-LsPost.rn c.in-LsPost.rt a (written_back c.in-LsPost.rn (base_and_imm9 c.args.core.now c.in-LsPost.rn c.in-LsPost.imm9))) c.args.core.now c.args.vec.now c.args.mem.now.memory) (sym c.x_sp-at.ensures)
    ∙ ap (λ (b : ℕ). transferred_by (one_transfer c.in-LsPost.v c.in-LsPost.size c.in-LsPost.opc c.in-LsPost.rn c.in-LsPost.rt c.x_sp-at.result (written_back c.in-LsPost.rn b)) c.args.core.now c.args.vec.now c.args.mem.now.memory) (sym c.near-back.ensures)
    ∙ c.single_at-in-LsPost.ensures.done

pub returns-in-LsPre-clause-done : goal.returns-in-LsPre-clause-done
returns-in-LsPre-clause-done c =
    ap (λ (f : A64Form). load_store f c.args.core.now c.args.vec.now c.args.mem.now.memory) (sym c.form.ensures.form ∙ c.in-LsPre.is)
    ∙ ap (λ (a : ℕ). transferred_by (one_transfer c.in-LsPre.v c.in-LsPre.size c.in-LsPre.opc c.in-LsPre.rn c.in-LsPre.rt a (written_back c.in-LsPre.rn a)) c.args.core.now c.args.vec.now c.args.mem.now.memory) (sym c.near-at-in-LsPre.ensures)
    ∙ c.single_at-in-LsPre.ensures.done

pub returns-in-Atomic-clause-done : goal.returns-in-Atomic-clause-done
returns-in-Atomic-clause-done c =
    ap (λ (f : A64Form). load_store f c.args.core.now c.args.vec.now c.args.mem.now.memory) (sym c.form.ensures.form ∙ c.in-Atomic.is)
    ∙ c.atomic.ensures.done c.in-Atomic.acquires c.in-Atomic.releases c.args.vec.now

pub returns-in-CompareSwap-clause-done : goal.returns-in-CompareSwap-clause-done
returns-in-CompareSwap-clause-done c =
    ap (λ (f : A64Form). load_store f c.args.core.now c.args.vec.now c.args.mem.now.memory) (sym c.form.ensures.form ∙ c.in-CompareSwap.is)
    ∙ c.compare_swap.ensures.done c.in-CompareSwap.acquires c.in-CompareSwap.releases c.args.vec.now
