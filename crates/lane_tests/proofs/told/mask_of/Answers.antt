use Rattle.std.proofs.Common.{◌≡◌, ◌<◌, ◌^◌, ℕ, not, nat_eq, length, map, w8, sym, subst, ◌∙◌, arith}
use Rattle.std.proofs.lemmas.List.{length-map}
use Rattle.std.proofs.lemmas.Simd.{bitmask_splat, mask_l-lt}
use Rattle.std.specs.Simd.Lanes.{mask_l}
use Rattle.lane_tests.proofs.told.mask_of.Goals as goal

pub returns : goal.returns
returns c =
    let is = bitmask_splat w8 (λ a b. not (nat_eq a b)) c.args.bytes 16 0 c.fits-bytes.0 (omega arith) in
    let count : length (map (λ x. not (nat_eq x 0)) c.args.bytes) ≡ 16 = length-map c.args.bytes (λ x. not (nat_eq x 0)) ∙ c.fits-bytes.0 in
    record {
      value = is;
      small = subst (λ (x : ℕ). x < 2 ^ 16) (sym is) (subst (λ n. mask_l (map (λ x. not (nat_eq x 0)) c.args.bytes) < 2 ^ n) count (mask_l-lt (map (λ x. not (nat_eq x 0)) c.args.bytes)));
    }
