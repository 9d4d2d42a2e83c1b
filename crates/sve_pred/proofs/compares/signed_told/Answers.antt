use Rattle.std.proofs.Common.{refl, sym, ap}
use Rattle.sve_effects.specs.declared.lane_functions.LaneTest.TheVariants.{Ge, Gt, Lt, Le, Eq, Ne}
use Rattle.sve_effects.specs.PredicateRows.{signed_test}
use Rattle.sve_pred.specs.declared.compares.Operand.TheVariants.{Number}
use Rattle.sve_pred.proofs.Compared.{same_told}
use Rattle.sve_pred.proofs.compares.signed_told.Goals as goal

pub returns-in-Cmpge : goal.returns-in-Cmpge
returns-in-Cmpge c =
    same_told c.args.e c.args.e c.args.zn Ge (signed_test c.args.op) (Number c.args.n) (Number c.args.n) c.args.vec.now c.number_told.result refl (ap signed_test (sym c.in-Cmpge.is)) refl c.number_told.ensures

pub returns-in-Cmpgt : goal.returns-in-Cmpgt
returns-in-Cmpgt c =
    same_told c.args.e c.args.e c.args.zn Gt (signed_test c.args.op) (Number c.args.n) (Number c.args.n) c.args.vec.now c.number_told-in-Cmpgt.result refl (ap signed_test (sym c.in-Cmpgt.is)) refl c.number_told-in-Cmpgt.ensures

pub returns-in-Cmplt : goal.returns-in-Cmplt
returns-in-Cmplt c =
    same_told c.args.e c.args.e c.args.zn Lt (signed_test c.args.op) (Number c.args.n) (Number c.args.n) c.args.vec.now c.number_told-in-Cmplt.result refl (ap signed_test (sym c.in-Cmplt.is)) refl c.number_told-in-Cmplt.ensures

pub returns-in-Cmple : goal.returns-in-Cmple
returns-in-Cmple c =
    same_told c.args.e c.args.e c.args.zn Le (signed_test c.args.op) (Number c.args.n) (Number c.args.n) c.args.vec.now c.number_told-in-Cmple.result refl (ap signed_test (sym c.in-Cmple.is)) refl c.number_told-in-Cmple.ensures

pub returns-in-Cmpeq : goal.returns-in-Cmpeq
returns-in-Cmpeq c =
    same_told c.args.e c.args.e c.args.zn Eq (signed_test c.args.op) (Number c.args.n) (Number c.args.n) c.args.vec.now c.number_told-in-Cmpeq.result refl (ap signed_test (sym c.in-Cmpeq.is)) refl c.number_told-in-Cmpeq.ensures

pub returns-in-Cmpne : goal.returns-in-Cmpne
returns-in-Cmpne c =
    same_told c.args.e c.args.e c.args.zn Ne (signed_test c.args.op) (Number c.args.n) (Number c.args.n) c.args.vec.now c.number_told-in-Cmpne.result refl (ap signed_test (sym c.in-Cmpne.is)) refl c.number_told-in-Cmpne.ensures
