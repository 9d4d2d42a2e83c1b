use Rattle.std.proofs.Common.{refl, sym, ap}
use Rattle.sve_effects.specs.declared.lane_functions.LaneTest.TheVariants.{Eq, Ne, Ge, Gt, Lt, Le, Hs, Hi, Lo, Ls}
use Rattle.sve_effects.specs.PredicateRows.{wide_test}
use Rattle.sve_pred.specs.declared.compares.Operand.TheVariants.{Covering}
use Rattle.sve_pred.proofs.Compared.{same_told}
use Rattle.sve_pred.proofs.compares.wide_told.Goals as goal

pub returns-in-Cmpeq : goal.returns-in-Cmpeq
returns-in-Cmpeq c =
    same_told c.args.e c.args.e c.args.zn Eq (wide_test c.args.op) (Covering c.args.zm) (Covering c.args.zm) c.args.vec.now c.covering_told.result refl (ap wide_test (sym c.in-Cmpeq.is)) refl c.covering_told.ensures

pub returns-in-Cmpne : goal.returns-in-Cmpne
returns-in-Cmpne c =
    same_told c.args.e c.args.e c.args.zn Ne (wide_test c.args.op) (Covering c.args.zm) (Covering c.args.zm) c.args.vec.now c.covering_told-in-Cmpne.result refl (ap wide_test (sym c.in-Cmpne.is)) refl c.covering_told-in-Cmpne.ensures

pub returns-in-Cmpge : goal.returns-in-Cmpge
returns-in-Cmpge c =
    same_told c.args.e c.args.e c.args.zn Ge (wide_test c.args.op) (Covering c.args.zm) (Covering c.args.zm) c.args.vec.now c.covering_told-in-Cmpge.result refl (ap wide_test (sym c.in-Cmpge.is)) refl c.covering_told-in-Cmpge.ensures

pub returns-in-Cmpgt : goal.returns-in-Cmpgt
returns-in-Cmpgt c =
    same_told c.args.e c.args.e c.args.zn Gt (wide_test c.args.op) (Covering c.args.zm) (Covering c.args.zm) c.args.vec.now c.covering_told-in-Cmpgt.result refl (ap wide_test (sym c.in-Cmpgt.is)) refl c.covering_told-in-Cmpgt.ensures

pub returns-in-Cmplt : goal.returns-in-Cmplt
returns-in-Cmplt c =
    same_told c.args.e c.args.e c.args.zn Lt (wide_test c.args.op) (Covering c.args.zm) (Covering c.args.zm) c.args.vec.now c.covering_told-in-Cmplt.result refl (ap wide_test (sym c.in-Cmplt.is)) refl c.covering_told-in-Cmplt.ensures

pub returns-in-Cmple : goal.returns-in-Cmple
returns-in-Cmple c =
    same_told c.args.e c.args.e c.args.zn Le (wide_test c.args.op) (Covering c.args.zm) (Covering c.args.zm) c.args.vec.now c.covering_told-in-Cmple.result refl (ap wide_test (sym c.in-Cmple.is)) refl c.covering_told-in-Cmple.ensures

pub returns-in-Cmphs : goal.returns-in-Cmphs
returns-in-Cmphs c =
    same_told c.args.e c.args.e c.args.zn Hs (wide_test c.args.op) (Covering c.args.zm) (Covering c.args.zm) c.args.vec.now c.covering_told-in-Cmphs.result refl (ap wide_test (sym c.in-Cmphs.is)) refl c.covering_told-in-Cmphs.ensures

pub returns-in-Cmphi : goal.returns-in-Cmphi
returns-in-Cmphi c =
    same_told c.args.e c.args.e c.args.zn Hi (wide_test c.args.op) (Covering c.args.zm) (Covering c.args.zm) c.args.vec.now c.covering_told-in-Cmphi.result refl (ap wide_test (sym c.in-Cmphi.is)) refl c.covering_told-in-Cmphi.ensures

pub returns-in-Cmplo : goal.returns-in-Cmplo
returns-in-Cmplo c =
    same_told c.args.e c.args.e c.args.zn Lo (wide_test c.args.op) (Covering c.args.zm) (Covering c.args.zm) c.args.vec.now c.covering_told-in-Cmplo.result refl (ap wide_test (sym c.in-Cmplo.is)) refl c.covering_told-in-Cmplo.ensures

pub returns-in-Cmpls : goal.returns-in-Cmpls
returns-in-Cmpls c =
    same_told c.args.e c.args.e c.args.zn Ls (wide_test c.args.op) (Covering c.args.zm) (Covering c.args.zm) c.args.vec.now c.covering_told-in-Cmpls.result refl (ap wide_test (sym c.in-Cmpls.is)) refl c.covering_told-in-Cmpls.ensures
