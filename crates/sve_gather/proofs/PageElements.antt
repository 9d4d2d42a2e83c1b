-- Elements in the bytes of one page.
use Rattle.std.proofs.Common.{◌≡◌, ◌≤◌, ◌<◌, ℕ, ◌+◌, ◌*◌, ◌/◌, ◌%◌, ◌^◌, ◌-◌, List, length, take, drop, None, true, sym, ap, ◌∙◌, arith}
use Rattle.byteorder.specs.Endian.{little_number}
use Rattle.emu_model.specs.declared.access.Kind.TheVariants.{Read}
use Rattle.emu_model.specs.Access.{Memory, address, allowed, page_size, refused, value}
use Rattle.emu_model.specs.ByPage.{page_gives}
use Rattle.emu_model.specs.Pages.{bytes_at}
use Rattle.emu_model.specs.WithinPage.{none_refused_within, number_in, split_address}
use Rattle.emu_model.proofs.LittleEndian.{number_of_part}
use Rattle.element_loops.proofs.RunLoads.{element_value}
use Rattle.std.specs.FinMap.{get}
use Rattle.sve_gather.specs.InPage.{IsPage}

module _ (m : Memory) (page : ℕ) (bytes : List ℕ) (is : IsPage m page bytes) (at n : ℕ) (word : at < 2 ^ 64) (here : at / page_size ≡ page) (fits : at % page_size + n ≤ page_size) where
  pub may_read : refused m at n Read ≡ None
  may_read =
      let same : at / page_size ≡ page * page_size / page_size = omega (arith, here) in
      none_refused_within m at n word fits Read (ap (λ k. page_gives (get m.pages k) Read) same ∙ is.allowed)

  pub number_is : length bytes ≡ page_size → little_number n (take (length bytes - at % page_size) (drop (at % page_size) bytes)) ≡ value m at n
  number_is long =
      let place : address (page * page_size + at % page_size) ≡ at = omega (arith, here, word) in
      number_of_part bytes (at % page_size) n (length bytes - at % page_size) (omega (arith, long, fits))
      ∙ ap (λ bs. number_in bs (at % page_size) n) is.bytes_are
      ∙ sym (element_value m (page * page_size) page_size (at % page_size) n fits)
      ∙ ap (λ a. value m a n) place
