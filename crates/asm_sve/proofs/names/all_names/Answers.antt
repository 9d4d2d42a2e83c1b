-- The index, computed.
use Rattle.asm_sve.specs.Opened.{texts_open}
use Rattle.std.proofs.Common.{refl}
use Rattle.asm_sve.proofs.names.all_names.Goals as goal

pub returns-clause-first : goal.returns-clause-first
returns-clause-first c = refl

pub returns-clause-second : goal.returns-clause-second
returns-clause-second c = refl

pub returns-clause-third : goal.returns-clause-third
returns-clause-third c = refl

pub returns-clause-searchable : goal.returns-clause-searchable
returns-clause-searchable c = refl

pub returns-clause-found : goal.returns-clause-found
returns-clause-found c = refl

pub returns-clause-patterns : goal.returns-clause-patterns
unfolding texts_open
returns-clause-patterns c = refl

pub returns-clause-known : goal.returns-clause-known
unfolding texts_open
returns-clause-known c = refl

pub returns-clause-within : goal.returns-clause-within
unfolding texts_open
returns-clause-within c = refl
