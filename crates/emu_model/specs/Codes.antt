-- The codes of a memory and of a machine, by which contracts tell their values apart.
use Rattle.std.specs.Prelude.{ℕ, Bool, List, Option}
use Rattle.std.specs.Ordering.{nat_cmp}
use Rattle.std.specs.FinMap.{FinMap, code}
use Rattle.std.proofs.Common.{refl}
use Rattle.std.specs.Coded.{Coded, code_by, coded×, coded_ℕ, coded_list, coded_bool, coded_option}
use Rattle.emu_model.specs.Access.{Page, Memory}
use Rattle.emu_model.specs.declared.trap.Ended.{Ended}
use Rattle.emu_model.specs.contracts.trap.Ended as ended
use Rattle.emu_model.specs.State.{Core, Vectors, Parts}
use Rattle.emu_bits.specs.declared.flags.Flags.{Flags}

abbrev pub coded_page : Coded Page
coded_page = code_by ((Bool × (Bool × Bool)) × List ℕ) (coded× (coded× coded_bool (coded× coded_bool coded_bool)) (coded_list coded_ℕ))
    (λ p. ((p.rights.r, (p.rights.w, p.rights.x)), p.bytes)) (λ q. record { rights = record { r = q.0.0; w = q.0.1.0; x = q.0.1.1 }; bytes = q.1 }) (λ _. refl)

abbrev pub coded_pages : Coded (FinMap nat_cmp Page)
coded_pages = code coded_ℕ coded_page

abbrev pub coded_memory : Coded Memory
coded_memory = code_by (FinMap nat_cmp Page × ℕ) (coded× coded_pages coded_ℕ)
    (λ m. (m.pages, m.limit)) (λ p. record { pages = p.0; limit = p.1 }) (λ _. refl)

abbrev pub coded_flags : Coded Flags
coded_flags = code_by (Bool × (Bool × (Bool × Bool))) (coded× coded_bool (coded× coded_bool (coded× coded_bool coded_bool)))
    (λ f. (f.n, (f.z, (f.c, f.v)))) (λ t. record { n = t.0; z = t.1.0; c = t.1.1.0; v = t.1.1.1 }) (λ _. refl)

abbrev pub coded_core : Coded Core
coded_core = code_by (List ℕ × (ℕ × (ℕ × (Flags × (ℕ × Option (ℕ × ℕ))))))
    (coded× (coded_list coded_ℕ) (coded× coded_ℕ (coded× coded_ℕ (coded× coded_flags (coded× coded_ℕ (coded_option (coded× coded_ℕ coded_ℕ)))))))
    (λ c. (c.x, (c.sp, (c.pc, (c.flags, (c.tpidr, c.monitor))))))
    (λ t. record { x = t.0; sp = t.1.0; pc = t.1.1.0; flags = t.1.1.1.0; tpidr = t.1.1.1.1.0; monitor = t.1.1.1.1.1 }) (λ _. refl)

abbrev pub coded_vectors : Coded Vectors
coded_vectors = code_by (ℕ × (ℕ × (List (List ℕ) × (List (List Bool) × List Bool))))
    (coded× coded_ℕ (coded× coded_ℕ (coded× (coded_list (coded_list coded_ℕ)) (coded× (coded_list (coded_list coded_bool)) (coded_list coded_bool)))))
    (λ v. (v.most, (v.bits, (v.z, (v.p, v.ffr))))) (λ t. record { most = t.0; bits = t.1.0; z = t.1.1.0; p = t.1.1.1.0; ffr = t.1.1.1.1 }) (λ _. refl)

abbrev pub coded_parts : Coded Parts
coded_parts = code_by (Core × (Vectors × (Memory × ((ℕ × ℕ) × (ℕ × Option Ended)))))
    (coded× coded_core (coded× coded_vectors (coded× coded_memory (coded× (coded× coded_ℕ coded_ℕ) (coded× coded_ℕ (coded_option ended.the_row.coded))))))
    (λ m. (m.core, (m.vectors, (m.memory, ((m.brk.start, m.brk.now), (m.steps, m.ended))))))
    (λ t. record { core = t.0; vectors = t.1.0; memory = t.1.1.0; brk = record { start = t.1.1.1.0.0; now = t.1.1.1.0.1 }; steps = t.1.1.1.1.0; ended = t.1.1.1.1.1 }) (λ _. refl)
