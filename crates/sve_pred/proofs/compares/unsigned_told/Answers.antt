use Rattle.std.proofs.Common.{refl, sym, ap}
use Rattle.sve_effects.specs.declared.lane_functions.LaneTest.TheVariants.{Hs, Hi, Lo, Ls}
use Rattle.sve_effects.specs.PredicateRows.{unsigned_test}
use Rattle.sve_pred.specs.declared.compares.Operand.TheVariants.{Number}
use Rattle.sve_pred.proofs.Compared.{same_told}
use Rattle.sve_pred.proofs.compares.unsigned_told.Goals as goal

pub returns-in-Cmphs : goal.returns-in-Cmphs
returns-in-Cmphs c =
    same_told c.args.e c.args.e c.args.zn Hs (unsigned_test c.args.op) (Number c.args.n) (Number c.args.n) c.args.vec.now c.number_told.result refl (ap unsigned_test (sym c.in-Cmphs.is)) refl c.number_told.ensures

pub returns-in-Cmphi : goal.returns-in-Cmphi
returns-in-Cmphi c =
    same_told c.args.e c.args.e c.args.zn Hi (unsigned_test c.args.op) (Number c.args.n) (Number c.args.n) c.args.vec.now c.number_told-in-Cmphi.result refl (ap unsigned_test (sym c.in-Cmphi.is)) refl c.number_told-in-Cmphi.ensures

pub returns-in-Cmplo : goal.returns-in-Cmplo
returns-in-Cmplo c =
    same_told c.args.e c.args.e c.args.zn Lo (unsigned_test c.args.op) (Number c.args.n) (Number c.args.n) c.args.vec.now c.number_told-in-Cmplo.result refl (ap unsigned_test (sym c.in-Cmplo.is)) refl c.number_told-in-Cmplo.ensures

pub returns-in-Cmpls : goal.returns-in-Cmpls
returns-in-Cmpls c =
    same_told c.args.e c.args.e c.args.zn Ls (unsigned_test c.args.op) (Number c.args.n) (Number c.args.n) c.args.vec.now c.number_told-in-Cmpls.result refl (ap unsigned_test (sym c.in-Cmpls.is)) refl c.number_told-in-Cmpls.ensures
