use Rattle.std.proofs.Common.{◌≡◌, ◌++◌, flat_map, string_bytes}
use Rattle.std.specs.List.{range_with_len}
use Rattle.command_model.specs.Listing.{data_line, line_text, program_text}
use Rattle.command_model.proofs.listing.load_listing.Given as goal

abbrev pub invariant-lines : goal.invariant-lines
invariant-lines l = string_bytes l.text ≡ program_text ++ flat_map (λ k. line_text (data_line l.number k)) (range_with_len 0 l.k)
