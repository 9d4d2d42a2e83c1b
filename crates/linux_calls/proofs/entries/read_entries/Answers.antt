use Rattle.std.proofs.Common.{◌≡◌, ◌+◌, ◌*◌, ◌^◌, ◌<◌, ℕ, List, ◌∷◌, [], ◌++◌, length, lit<, refl, sym, ap, ◌∙◌, arith}
use Rattle.std.proofs.Math.Nat.{mod-add-mod}
use Rattle.emu_model.specs.declared.access.Kind.TheVariants.{Read}
use Rattle.emu_model.specs.Access.{address, refused, value}
use Rattle.emu_model.specs.Marks.{MarkedMemory}
use Rattle.emu_model.specs.ListLaws.{each-more, length-each}
use Rattle.emu_system.specs.declared.system_call.Range.{Range}
use Rattle.emu_system.specs.SystemCall.{entries, entry_at}
use Rattle.linux_calls.proofs.Bytes.{entry_is, part_granted, wrapped}
use Rattle.linux_calls.proofs.entries.read_entries.Goals as goal

pub load-address-requires : goal.load-address-requires
load-address-requires c =
    let x : ℕ = address (c.args.at + 16 * c.loop-k.k) in
    ap (λ (m : MarkedMemory). refused m.memory x 8 Read) c.loop-k.invariant.unchanged
    ∙ part_granted (16 * c.loop-k.k) 8 (16 * c.args.count) c.args.mem.now.memory c.args.at x Read (omega (arith, c.loop-k-test.true)) (wrapped (c.args.at + 16 * c.loop-k.k)) c.requires.readable

pub load-length-requires : goal.load-length-requires
load-length-requires c =
    let a : ℕ = c.args.at + 16 * c.loop-k.k in
    let y : ℕ = address (address a + 8) in
    let same : address y ≡ address (c.args.at + (16 * c.loop-k.k + 8)) = wrapped (address a + 8) ∙ mod-add-mod a (2 ^ 64) 8 ∙ ap (λ (n : ℕ). address n) (omega arith) in
    ap (λ (m : MarkedMemory). refused m.memory y 8 Read) (c.load-address.ensures.unchanged ∙ c.loop-k.invariant.unchanged)
    ∙ part_granted (16 * c.loop-k.k + 8) 8 (16 * c.args.count) c.args.mem.now.memory c.args.at y Read (omega (arith, c.loop-k-test.true)) same c.requires.readable

pub push-requires : goal.push-requires
push-requires c =
    let long : length c.loop-k.ranges.items ≡ c.loop-k.k = ap length c.loop-k.invariant.entries ∙ length-each c.loop-k.k (λ k. entry_at c.args.mem.now.memory (c.args.at + 16 * k)) in
    let few : length c.loop-k.ranges.items < 1024 = omega (arith, long, c.loop-k-test.true, c.requires.few) in
    (lit< tt, few)

pub loop-k-preserved : goal.loop-k-preserved
loop-k-preserved c =
    let m = c.args.mem.now.memory in
    let first = c.load-address.ensures.value ∙ ap (λ (n : MarkedMemory). value n.memory (address (c.args.at + 16 * c.loop-k.k)) 8) c.loop-k.invariant.unchanged in
    let unchanged = c.load-address.ensures.unchanged ∙ c.loop-k.invariant.unchanged in
    record {
      unchanged = c.load-length.ensures.unchanged ∙ unchanged;
      entries = c.push.ensures.items
          ∙ ap (λ (l : List Range). l ++ record { address = c.load-address.result; length = c.load-length.result } ∷ []) c.loop-k.invariant.entries
          ∙ ap (λ (e : Range). entries m c.args.at c.loop-k.k ++ e ∷ []) (entry_is m c.load-address.new.mem.memory c.args.at c.loop-k.k _ _ _ _ (ap (λ (m : MarkedMemory). m.memory) unchanged) refl refl first c.load-length.ensures.value)
          ∙ sym (each-more c.loop-k.k (λ k. entry_at m (c.args.at + 16 * k)));
    }
