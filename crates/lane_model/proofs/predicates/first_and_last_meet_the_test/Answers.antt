use Rattle.lane_model.proofs.Found.{first_found, last_found}
use Rattle.lane_model.proofs.predicates.first_and_last_meet_the_test.Goals as goal

pub returns-clause-first : goal.returns-clause-first
returns-clause-first c = first_found

pub returns-clause-last : goal.returns-clause-last
returns-clause-last c = last_found
