-- What reading a file by its name gives. It is this project's own choice what is asked of files.
use Rattle.std.specs.Prelude.{◌≡◌, ◌≢◌, ℕ, List, length, Option, Some, None, Result, Ok, Err, IfSome, MatchResult, nat_le, if◌then◌else◌}
use Rattle.std.specs.Option.{IsSomeAnd}
use Rattle.std.specs.Ordering.{nat_cmp}
use Rattle.std.specs.Cmp.Lexicographic.{slice_cmp}
use Rattle.std.specs.FinMap.{FinMap, get}
use Rattle.std.specs.Global.{Vec}
use Rattle.io_gate.specs.declared.images.ImagesError.{ImagesError}
use Rattle.io_gate.specs.declared.images.ImagesError.TheVariants.{Failed, Missing, TooLong, OutOfMemory}

-- the bytes of each file, by the bytes of its name
abbrev pub NamedFiles : Type 0
NamedFiles = FinMap (slice_cmp nat_cmp) (List ℕ)

-- the file of a name is read whole, unless there is none or it is longer than the limit
abbrev pub whole_file : Option (List ℕ) → ℕ → Result (List ℕ) ImagesError
whole_file None limit = Err Missing
whole_file (Some bytes) limit = if nat_le (length bytes) limit then Ok bytes else Err TooLong

-- an error is the one that the file itself gives, but for a failure; memory may be wanting only where there is a file
abbrev pub MayFailWith : Result (List ℕ) ImagesError → ImagesError → Type 0
MayFailWith file Failed = Unit {0}
MayFailWith file Missing = file ≡ Err Missing
MayFailWith file TooLong = file ≡ Err TooLong
MayFailWith file OutOfMemory = file ≢ Err Missing

-- the answer is what the file gives, unless reading failed or memory was wanting
abbrev pub IsAnswerOf : Result (List ℕ) ImagesError → Result (Vec ℕ) ImagesError → Type 0
IsAnswerOf file result = MatchResult result (λ bytes. file ≡ Ok bytes.items) (λ error. MayFailWith file error)

-- where the files are told: the answer is what the file of the name gives
abbrev pub ReadsNamed : Option NamedFiles → List ℕ → ℕ → Result (Vec ℕ) ImagesError → Type 0
ReadsNamed named name limit result = IfSome named (λ files. IsAnswerOf (whole_file (get files name) limit) result)

-- the files are told, and none has the name
abbrev pub MissesNamed : Option NamedFiles → List ℕ → Type 0
MissesNamed named name = IsSomeAnd named (λ files. get files name ≡ None)
