-- What a source gives and what a sink is given, and that a failure is counted, and a failure that was counted is
-- answered. It is this project's own choice what is asked of streams; that a call may move fewer bytes than it is
-- given, and at least one of some, is from Linux's read(2) and write(2).
use Rattle.std.specs.Prelude.{◌≡◌, ◌<◌, ◌≤◌, ℕ, ◌+◌, ◌-◌, ◌^◌, min, List, [], ◌++◌, length, take, drop, Option, Some, Result, IfSome, MatchResult, OnOk, OnErr, IfOk}

-- a count of faults is greater than before, or stands at its last value
abbrev pub Rose : ℕ → ℕ → Type 0
Rose before now = min (before + 1) (2 ^ 64 - 1) ≤ now

-- the count never falls, a failure comes only where it rose, and any other answer leaves it as it was
pub record HasCause {T E : Type 0} (before now : ℕ) (result : Result T E) : Type 0 where
  pub later : before ≤ now
  pub failed : OnErr result (Rose before now)
  pub kept : OnOk result (now ≡ before)

-- the count never falls, P comes only where it rose, and where it isn't P, the count is as it was
pub record Causes (P : Type 0) (before now : ℕ) : Type 0 where
  pub later : before ≤ now
  pub rose : P → Rose before now
  pub kept : (P → ⊥) → now ≡ before

-- no more bytes were taken than the buffer has room for
abbrev pub TakesAtMost : {E : Type 0} → Result ℕ E → List ℕ → Type 0
TakesAtMost result into = IfOk result (λ n. n ≤ length into)

-- where the source tells what is left: its first bytes are removed and stand first in the buffer, and none is removed
-- by a failure
abbrev pub TakesFirst : {E : Type 0} → Option (List ℕ) → Option (List ℕ) → List ℕ → Result ℕ E → Type 0
TakesFirst old new into result =
    IfSome old (λ left. MatchResult result
    (λ n. (n ≤ length left) × (new ≡ Some (drop n left)) × (take n into ≡ take n left)) (λ _. new ≡ Some left))

-- where the source tells what is left: no bytes are taken only where none is left
abbrev pub TakesSome : {E : Type 0} → Option (List ℕ) → Result ℕ E → Type 0
TakesSome old result = IfSome old (λ left. IfOk result (λ n. n ≡ 0 → left ≡ []))

-- past the bytes that were taken the buffer stays as it was, and after a failure all of it
abbrev pub KeepsRest : {E : Type 0} → List ℕ → List ℕ → Result ℕ E → Type 0
KeepsRest before now result = MatchResult result (λ n. drop n now ≡ drop n before) (λ _. now ≡ before)

-- at least one byte of the piece went out, and no more than it has
abbrev pub PutsSome : {E : Type 0} → Result ℕ E → List ℕ → Type 0
PutsSome result piece = IfOk result (λ n. (0 < n) × (n ≤ length piece))

-- where the sink tells what it holds: the first bytes of the piece are appended, and none by a failure
abbrev pub PutsPrefix : {E : Type 0} → Option (List ℕ) → Option (List ℕ) → List ℕ → Result ℕ E → Type 0
PutsPrefix old new piece result =
    IfSome old (λ held. MatchResult result (λ n. new ≡ Some (held ++ take n piece)) (λ _. new ≡ Some held))
