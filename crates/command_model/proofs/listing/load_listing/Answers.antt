use Rattle.std.proofs.Common.{◌≡◌, ℕ, ◌++◌, flat_map, string_bytes, subst, ◌∙◌, arith}
use Rattle.std.specs.List.{range_with_len}
use Rattle.command_model.specs.Listing.{data_line, data_text, line_text, listing, program_text}
use Rattle.command_model.proofs.Appended.{appended_more, appended_none}
use Rattle.command_model.proofs.listing.load_listing.Goals as goal

pub lines-init : goal.lines-init
lines-init c = c.in_ok-text.ensures.ok ∙ c.program.ensures ∙ appended_none program_text

pub lines-preserved : goal.lines-preserved
lines-preserved c =
    appended_more (λ (k : ℕ). line_text (data_line c.args.number k)) 0 c.lines.k c.lines.k program_text (string_bytes c.lines.text) _ (omega arith) c.lines.invariant c.in_ok-push_data_line.ensures

pub returns : goal.returns
unfolding listing data_text
returns c =
    let end : c.lines.k ≡ 2500 = omega (arith, c.lines.auto.k-end, c.lines-test.false) in
    subst (λ (n : ℕ). string_bytes c.lines.text ≡ program_text ++ flat_map (λ k. line_text (data_line c.args.number k)) (range_with_len 0 n)) end c.lines.invariant
