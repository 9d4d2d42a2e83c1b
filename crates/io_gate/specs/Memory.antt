-- What a source, a sink and files in memory hold.
use Rattle.std.specs.Prelude.{ℕ, min, List, length, refl}
use Rattle.std.specs.Coded.{Coded, code_by, coded×, coded_ℕ, coded_list}
use Rattle.std.specs.FinMap as map
use Rattle.io_gate.specs.Images.{NamedFiles}
use Rattle.io_gate.specs.Calls.{Calls, coded_calls}

-- the bytes still to come, and at most how many a call gives
pub record Supplied : Type 0 where
  pub left : List ℕ
  pub most : ℕ

abbrev pub coded_supplied : Coded Supplied
coded_supplied =
    code_by (List ℕ × ℕ) (coded× (coded_list coded_ℕ) coded_ℕ) (λ s. (s.left, s.most)) (λ p. record { left = p.0; most = p.1 }) (λ _. refl)

-- how many bytes a call gives into so much room
abbrev pub portion : Supplied → ℕ → ℕ
portion supplied room = min supplied.most (min (length supplied.left) room)

-- a source: what it has to give, and its calls
pub record Supply : Type 0 where
  pub stock : Supplied
  pub calls : Calls

abbrev pub coded_supply : Coded Supply
coded_supply =
    code_by (Supplied × Calls) (coded× coded_supplied coded_calls) (λ s. (s.stock, s.calls)) (λ p. record { stock = p.0; calls = p.1 }) (λ _. refl)

-- a sink: the bytes it holds, at most how many a call accepts, its calls, and how often memory was wanting
pub record Drain : Type 0 where
  pub held : List ℕ
  pub most : ℕ
  pub calls : Calls
  pub wanting : ℕ

abbrev pub coded_drain : Coded Drain
coded_drain =
    code_by (List ℕ × (ℕ × (Calls × ℕ))) (coded× (coded_list coded_ℕ) (coded× coded_ℕ (coded× coded_calls coded_ℕ))) (λ d. (d.held, (d.most, (d.calls, d.wanting)))) (λ p. record { held = p.0; most = p.1.0; calls = p.1.1.0; wanting = p.1.1.1 }) (λ _. refl)

-- files by name, and the calls of their owner
pub record Shelf : Type 0 where
  pub files : NamedFiles
  pub calls : Calls

abbrev pub coded_shelf : Coded Shelf
coded_shelf =
    code_by (NamedFiles × Calls) (coded× (map.code (coded_list coded_ℕ) (coded_list coded_ℕ)) coded_calls) (λ s. (s.files, s.calls)) (λ p. record { files = p.0; calls = p.1 }) (λ _. refl)

-- an adapter over a reader or a writer, and its count of faults
pub record Edge (X : Type 0) : Type 0 where
  pub inner : X
  pub faults : ℕ

abbrev pub coded_edge : {X : Type 0} → Coded X → Coded (Edge X)
coded_edge {X} code = code_by (X × ℕ) (coded× code coded_ℕ) (λ e. (e.inner, e.faults)) (λ p. record { inner = p.0; faults = p.1 }) (λ _. refl)

-- an adapter over the files of a runtime: its count of faults
pub record FilesEdge : Type 0 where
  pub faults : ℕ

abbrev pub coded_files_edge : Coded FilesEdge
coded_files_edge = code_by ℕ coded_ℕ (λ e. e.faults) (λ n. record { faults = n }) (λ _. refl)
