-- Pages that are mapped where a free run was found.
use Rattle.std.proofs.Common.{◌≡◌, ◌≤◌, ◌+◌, ◌*◌, ◌/◌, ◌^◌, ℕ, Bool, true, false, Option, Some, None, Result, Ok, Err, if◌then◌else◌, refl, sym, ap, subst, ◌∙◌}
use Rattle.emu_model.specs.declared.access.Rights.{Rights}
use Rattle.emu_model.specs.declared.program_break.Break.{Break}
use Rattle.emu_model.specs.Access.{Memory, page_size}
use Rattle.emu_model.specs.Pages.{free_run, is_over_limit, mapped}
use Rattle.guest_pages.specs.MapFault.{first_fault, map_fault}
use Rattle.emu_system.specs.declared.system_call.Errno.TheVariants.{ENOMEM}
use Rattle.emu_system.specs.SoundCall.{run_fits, run_is_free}
use Rattle.emu_system.specs.SystemCall.{fails, highest, maps, mapping_at}
use Rattle.linux_calls.specs.declared.reply.Reply.TheVariants.{Error}
use Rattle.linux_calls.specs.Replies.{HasDone}

module _ (m : Memory) (count first : ℕ) (rights : Rights) (brk : Break) (found : free_run m.pages count (highest / page_size) ≡ Some first) where
  pub low : 1 ≤ first
  low = (run_fits count m first found).0

  pub high : first + count ≤ 2 ^ 35
  high = (run_fits count m first found).1

  fault : map_fault m first count ≡ first_fault None (is_over_limit m count)
  fault = ap (λ (o : Option ℕ). first_fault o (is_over_limit m count)) (run_is_free count m first found)

  -- where the pages can't be mapped, they would pass the limit
  module _ (E T : Type 0) (e : E) (x : T) (at now : Memory) (is : at ≡ m) (granted : map_fault at first count ≡ None → ◌≡◌ {A = Result T E} (Err e) (Ok x)) (same : now ≡ at) where
    by_limit : (b : Bool) → is_over_limit m count ≡ b → HasDone (if b then fails ENOMEM else maps (mapped m first count rights) (page_size * first)) m brk now brk (Error ENOMEM)
    by_limit true over = (refl, same ∙ is, refl)
    by_limit false over = let no : Err e ≡ Ok x = granted (ap (λ (n : Memory). map_fault n first count) is ∙ fault ∙ ap (λ (b : Bool). first_fault None b) over) in cc

    pub refused : HasDone (mapping_at (free_run m.pages count (highest / page_size)) m count rights) m brk now brk (Error ENOMEM)
    refused = subst (λ (o : Option ℕ). HasDone (mapping_at o m count rights) m brk now brk (Error ENOMEM)) (sym found) (by_limit (is_over_limit m count) refl)
