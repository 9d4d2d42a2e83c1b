use Rattle.std.proofs.Common.{refl, sym, ap}
use Rattle.sve_effects.specs.declared.lane_functions.LaneTest.TheVariants.{Hs, Hi, Ge, Gt, Eq, Ne}
use Rattle.sve_effects.specs.PredicateRows.{vector_test}
use Rattle.sve_pred.specs.declared.compares.Operand.TheVariants.{Lane}
use Rattle.sve_pred.proofs.Compared.{same_told}
use Rattle.sve_pred.proofs.compares.vectors_told.Goals as goal

pub returns-in-Cmphs : goal.returns-in-Cmphs
returns-in-Cmphs c =
    same_told c.args.e c.args.e c.args.zn Hs (vector_test c.args.op) (Lane c.args.zm) (Lane c.args.zm) c.args.vec.now c.lanes_told.result refl (ap vector_test (sym c.in-Cmphs.is)) refl c.lanes_told.ensures

pub returns-in-Cmphi : goal.returns-in-Cmphi
returns-in-Cmphi c =
    same_told c.args.e c.args.e c.args.zn Hi (vector_test c.args.op) (Lane c.args.zm) (Lane c.args.zm) c.args.vec.now c.lanes_told-in-Cmphi.result refl (ap vector_test (sym c.in-Cmphi.is)) refl c.lanes_told-in-Cmphi.ensures

pub returns-in-Cmpge : goal.returns-in-Cmpge
returns-in-Cmpge c =
    same_told c.args.e c.args.e c.args.zn Ge (vector_test c.args.op) (Lane c.args.zm) (Lane c.args.zm) c.args.vec.now c.lanes_told-in-Cmpge.result refl (ap vector_test (sym c.in-Cmpge.is)) refl c.lanes_told-in-Cmpge.ensures

pub returns-in-Cmpgt : goal.returns-in-Cmpgt
returns-in-Cmpgt c =
    same_told c.args.e c.args.e c.args.zn Gt (vector_test c.args.op) (Lane c.args.zm) (Lane c.args.zm) c.args.vec.now c.lanes_told-in-Cmpgt.result refl (ap vector_test (sym c.in-Cmpgt.is)) refl c.lanes_told-in-Cmpgt.ensures

pub returns-in-Cmpeq : goal.returns-in-Cmpeq
returns-in-Cmpeq c =
    same_told c.args.e c.args.e c.args.zn Eq (vector_test c.args.op) (Lane c.args.zm) (Lane c.args.zm) c.args.vec.now c.lanes_told-in-Cmpeq.result refl (ap vector_test (sym c.in-Cmpeq.is)) refl c.lanes_told-in-Cmpeq.ensures

pub returns-in-Cmpne : goal.returns-in-Cmpne
returns-in-Cmpne c =
    same_told c.args.e c.args.e c.args.zn Ne (vector_test c.args.op) (Lane c.args.zm) (Lane c.args.zm) c.args.vec.now c.lanes_told-in-Cmpne.result refl (ap vector_test (sym c.in-Cmpne.is)) refl c.lanes_told-in-Cmpne.ensures
