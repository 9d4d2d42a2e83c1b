-- The parts of the stack, written one piece after the other.
use Rattle.std.proofs.Common.{◌≡◌, ◌<◌, ℕ, ◌+◌, ◌*◌, List, [], ◌∷◌, ◌++◌, length, map, get_or, drop, sym, ap, ◌∙◌, arith}
use Rattle.std.proofs.Math.ListN.{length-append}
use Rattle.std.proofs.lemmas.List.{at_drop_more}
use Rattle.std.specs.List.{AllByRecursion}
use Rattle.byteorder.specs.Endian.{little_bytes}
use Rattle.byteorder.specs.Numbers.{length-bytes_low_first}
use Rattle.emu_model.specs.Access.{Memory}
use Rattle.emu_model.specs.Pages.{with_bytes}
use Rattle.emu_system.specs.ArgumentLimits.{AreArguments}
use Rattle.emu_system.specs.Image.{Image, stack_page_count}
use Rattle.emu_system.specs.Stack.{argument_addresses, argument_bytes, arguments_at, first_stack_page, last_words, random_at, stack_pieces, start_words, word_bytes}
use Rattle.emu_system.specs.StackEquations.{word_bytes_are}
use Rattle.emu_system.specs.StackLaws.{length-argument_addresses, length-random_bytes, length-start_words, length-word_bytes, one_argument, parts_apart, word_bytes-append, word_bytes-cons}
use Rattle.emu_machine.proofs.Loading.{IsWithin}
use Rattle.emu_machine.proofs.Written.{with_bytes_on}

-- ---- one piece after the other

pub words_written : (xs ys : List ℕ) (m : Memory) (a : ℕ) → with_bytes (with_bytes m a (word_bytes xs)) (a + 8 * length xs) (word_bytes ys) ≡ with_bytes m a (word_bytes (xs ++ ys))
words_written xs ys m a =
    ap (λ n. with_bytes (with_bytes m a (word_bytes xs)) (a + n) (word_bytes ys)) (sym (length-word_bytes xs))
    ∙ sym (with_bytes_on (word_bytes xs) (word_bytes ys) m a)
    ∙ ap (λ (l : List ℕ). with_bytes m a l) (sym (word_bytes-append xs ys))

pub no_words_written : (m : Memory) (a : ℕ) → with_bytes m a (word_bytes []) ≡ m
no_words_written m a = ap (λ (l : List ℕ). with_bytes m a l) (word_bytes_are [])

pub word_written : (words : List ℕ) (i d : ℕ) (m : Memory) (a : ℕ) → i < length words
    → with_bytes (with_bytes m a (little_bytes 8 (get_or words i d))) (a + 8) (word_bytes (drop (i + 1) words)) ≡ with_bytes m a (word_bytes (drop i words))
word_written words i d m a below =
    let w : ℕ = get_or words i d in
    let others : List ℕ = word_bytes (drop (i + 1) words) in
    ap (λ n. with_bytes (with_bytes m a (little_bytes 8 w)) (a + n) others) (sym (length-bytes_low_first 0 8 w))
    ∙ sym (with_bytes_on (little_bytes 8 w) others m a)
    ∙ ap (λ (l : List ℕ). with_bytes m a l) (sym (at_drop_more (λ (ws : List ℕ). word_bytes ws) words i d below ∙ word_bytes-cons w (drop (i + 1) words)))

-- arguments that are texts, of which `bytes` gives the bytes
module _ {X : Type 0} (bytes : X → List ℕ) (xs : List X) (i : ℕ) (d : X) (below : i < length xs) where
  pub length_left : length (argument_bytes (map bytes (drop i xs))) ≡ length (bytes (get_or xs i d)) + 1 + length (argument_bytes (map bytes (drop (i + 1) xs)))
  length_left = at_drop_more (λ (ys : List X). length (argument_bytes (map bytes ys))) xs i d below ∙ one_argument (bytes (get_or xs i d)) (map bytes (drop (i + 1) xs))

  pub argument_written : (m : Memory) (a : ℕ)
      → with_bytes (with_bytes (with_bytes m a (bytes (get_or xs i d))) (a + length (bytes (get_or xs i d))) (0 ∷ [])) (a + length (bytes (get_or xs i d)) + 1) (argument_bytes (map bytes (drop (i + 1) xs)))
      ≡ with_bytes m a (argument_bytes (map bytes (drop i xs)))
  argument_written m a =
      let arg : List ℕ = bytes (get_or xs i d) in
      let others : List ℕ = argument_bytes (map bytes (drop (i + 1) xs)) in
      let long : length (arg ++ 0 ∷ []) ≡ length arg + 1 = length-append arg (0 ∷ []) in
      let far : a + length (arg ++ 0 ∷ []) ≡ a + length arg + 1 = omega arith in
      ap (λ (n : Memory). with_bytes n (a + length arg + 1) others) (sym (with_bytes_on arg (0 ∷ []) m a))
      ∙ ap (λ n. with_bytes (with_bytes m a (arg ++ 0 ∷ [])) n others) (sym far)
      ∙ sym (with_bytes_on (arg ++ 0 ∷ []) others m a)
      ∙ ap (λ (l : List ℕ). with_bytes m a l) (sym (at_drop_more (λ (ys : List X). argument_bytes (map bytes ys)) xs i d below))

  pub address_written : (m : Memory) (a first : ℕ)
      → with_bytes (with_bytes m a (word_bytes (first ∷ []))) (a + 8) (word_bytes (argument_addresses (first + (length (bytes (get_or xs i d)) + 1)) (map bytes (drop (i + 1) xs))))
      ≡ with_bytes m a (word_bytes (argument_addresses first (map bytes (drop i xs))))
  address_written m a first =
      words_written (first ∷ []) (argument_addresses (first + (length (bytes (get_or xs i d)) + 1)) (map bytes (drop (i + 1) xs))) m a
      ∙ ap (λ (l : List ℕ). with_bytes m a l) (sym (at_drop_more (λ (ys : List X). word_bytes (argument_addresses first (map bytes ys))) xs i d below))

-- the words that SP points to, in three parts
pub start_words_written : (image : Image) (args : List (List ℕ)) (m : Memory) (a : ℕ)
    → with_bytes (with_bytes (with_bytes m a (word_bytes (length args ∷ []))) (a + 8) (word_bytes (argument_addresses (arguments_at args) args))) (a + 8 * (length args + 1)) (word_bytes (last_words image (random_at args)))
    ≡ with_bytes m a (word_bytes (start_words image args))
start_words_written image args m a =
    let addresses : List ℕ = argument_addresses (arguments_at args) args in
    let rest : List ℕ = last_words image (random_at args) in
    let place : a + 8 * (length args + 1) ≡ a + 8 * length (length args ∷ addresses) = (let f = length-argument_addresses (arguments_at args) args in omega arith) in
    ap (λ n. with_bytes n (a + 8 * (length args + 1)) (word_bytes rest)) (words_written (length args ∷ []) addresses m a)
    ∙ ap (λ n. with_bytes (with_bytes m a (word_bytes (length args ∷ addresses))) n (word_bytes rest)) place
    ∙ words_written (length args ∷ addresses) rest m a

-- ---- where they stand

-- the three pieces, in order, in the pages of the stack
pub pieces_within : (image : Image) (args : List (List ℕ)) → AreArguments args → AllByRecursion (IsWithin first_stack_page stack_page_count) (stack_pieces image args)
pieces_within image args h =
    let apart = parts_apart args h in
    let words = length-word_bytes (start_words image args) in
    let n = length-start_words image args in
    let random = length-random_bytes in (
      record { low = omega arith; high = omega arith; word = omega arith },
      (
        record { low = omega arith; high = omega arith; word = omega arith },
        (record { low = omega arith; high = omega arith; word = omega arith }, tt),
      ),
    )

-- loops over words and over arguments
pub ruleset written = (word_written, no_words_written)
