-- Lanes of slices, by their numbers.
use Rattle.std.specs.Prelude.{◌≡◌, ◌<◌, ℕ, List, map, length, get_or}
use Rattle.lane_model.specs.declared.places.LaneSource.{LaneSource}
use Rattle.lane_model.specs.Permute.{taken}

-- the number of lane k
abbrev pub number_at : {T : Type 0} → (T → ℕ) → List T → ℕ → ℕ
number_at number lanes k = get_or (map number lanes) k 0

-- each lane k of the result is what place k names, of the sources a and b and of a scalar
abbrev pub IsPermuted : {T : Type 0} → (T → ℕ) → List T → List T → ℕ → (ℕ → LaneSource) → List T → Type 0
IsPermuted number a b scalar place result = (k : ℕ) → k < length result → number_at number result k ≡ taken (number_at number a) (number_at number b) scalar 0 (place k)

-- the lanes of a list that others number stand in a result, from lane 0 on
abbrev pub HasLanes : {T : Type 0} → (T → ℕ) → List T → List ℕ → List T → Type 0
HasLanes number a numbers result = (i : ℕ) → i < length numbers → number_at number result i ≡ number_at number a (get_or numbers i 0)
