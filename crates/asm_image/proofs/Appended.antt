-- Bytes appended one after the other, as a file is written.
use Rattle.std.proofs.Common.{◌≡◌, ℕ, ◌+◌, ◌-◌, ◌==◌, ◌&&◌, ◌≤◌, ◌∙◌, true, false, List, [], ◌++◌, append_assoc, replicate, Result, Ok, Err, is_ok, if◌then◌else◌, length, length-append, refl, sym, ap, arith}
use Rattle.std.specs.Prelude.{OnOk}
use Rattle.std.proofs.lemmas.Bool.{cond-true, cond-false}
use Rattle.std.proofs.lemmas.List.{length-replicate}
use Rattle.emu_model.specs.Access.{page_size}
use Rattle.listing_model.specs.File.{rounded, padded, elf_header, code_header, data_header, file_of}

-- two pieces behind a file
pub two : (f g h b c : List ℕ) → g ≡ f ++ b → h ≡ g ++ c → h ≡ f ++ (b ++ c)
two f g h b c d e = e ∙ ap (λ (xs : List ℕ). xs ++ c) d ∙ append_assoc f b c

pub on_ok : {A E : Type 0} {P Q : Type 0} (r : Result A E) → (P → Q) → OnOk r P → OnOk r Q
on_ok (Ok x) f h = f h
on_ok (Err e) f h = h

-- the same behind a call whose clause speaks of both answers
pub if_ok : {A E : Type 0} {P : Type 0} (r : Result A E) (new xs ys : List ℕ) → new ≡ (if is_ok r then xs else ys) → (new ≡ xs → P) → OnOk r P
if_ok (Ok x) new xs ys h f = f h
if_ok (Err e) new xs ys h f = tt

pub one_segment : (entry bss : ℕ) (code values f0 f1 f2 f3 f4 : List ℕ) → (length values == 0 && bss == 0) ≡ true → f0 ≡ [] → f1 ≡ f0 ++ elf_header entry 1
    → f2 ≡ f1 ++ code_header (length code) → f3 ≡ padded page_size f2 → f4 ≡ f3 ++ code → f4 ≡ file_of entry code values bss
one_segment entry bss code values f0 f1 f2 f3 f4 t e0 e1 e2 e3 e4 =
    let headers : f2 ≡ elf_header entry 1 ++ code_header (length code) =
    e2 ∙ ap (λ (xs : List ℕ). xs ++ code_header (length code)) (e1 ∙ ap (λ (xs : List ℕ). xs ++ elf_header entry 1) e0) in
    e4 ∙ ap (λ (xs : List ℕ). xs ++ code) (e3 ∙ ap (padded page_size) headers) ∙ sym (cond-true (length values == 0 && bss == 0) _ _ t)

abbrev pub zeros : ℕ → List ℕ
zeros n = replicate n 0

-- zeros behind the second of two pieces
padded_behind : (m n : ℕ) (xs ys : List ℕ) → length xs ≡ m → padded (m + n) (xs ++ ys) ≡ xs ++ padded n ys
padded_behind m n xs ys h =
    let count : (m + n) - length (xs ++ ys) ≡ n - length ys = omega (arith, length-append xs ys) in
    ap (λ (k : ℕ). (xs ++ ys) ++ zeros k) count ∙ append_assoc xs ys (zeros (n - length ys))

padded_length : (n : ℕ) (xs : List ℕ) → length xs ≤ n → length (padded n xs) ≡ n
padded_length n xs h = omega (arith, length-append xs (zeros (n - length xs)), length-replicate {A = ℕ} (n - length xs) 0)

pub two_segments : (entry bss : ℕ) (code values f0 f1 f2 f3 f4 f5 f6 f7 : List ℕ) → (length values == 0 && bss == 0) ≡ false → f0 ≡ [] → f1 ≡ f0 ++ elf_header entry 2
    → f2 ≡ f1 ++ code_header (length code) → f3 ≡ f2 ++ data_header (length code) (length values) bss → f4 ≡ padded page_size f3 → f5 ≡ f4 ++ code
    → f6 ≡ padded (page_size + rounded (length code)) f5 → f7 ≡ f6 ++ values → f7 ≡ file_of entry code values bss
two_segments entry bss code values f0 f1 f2 f3 f4 f5 f6 f7 t e0 e1 e2 e3 e4 e5 e6 e7 =
    let first : f1 ≡ elf_header entry 2 = e1 ∙ ap (λ (xs : List ℕ). xs ++ elf_header entry 2) e0 in
    let all : List ℕ = elf_header entry 2 ++ (code_header (length code) ++ data_header (length code) (length values) bss) in
    let headers : f3 ≡ all =
    two f1 f2 f3 (code_header (length code)) (data_header (length code) (length values) bss) e2 e3
    ∙ ap (λ (xs : List ℕ). xs ++ (code_header (length code) ++ data_header (length code) (length values) bss)) first in
    let size : length all ≡ 176 = refl in
    let start : f4 ≡ padded page_size all = e4 ∙ ap (padded page_size) headers in
    let start_size : length (padded page_size all) ≡ page_size = padded_length page_size all (omega (arith, size)) in
    e7 ∙ ap (λ (xs : List ℕ). xs ++ values)
    (e6 ∙ ap (padded (page_size + rounded (length code))) (e5 ∙ ap (λ (xs : List ℕ). xs ++ code) start)
    ∙ padded_behind page_size (rounded (length code)) (padded page_size all) code start_size)
    ∙ append_assoc (padded page_size all) (padded (rounded (length code)) code) values
    ∙ sym (cond-false (length values == 0 && bss == 0) _ _ t)
