use Rattle.std.proofs.Common.{◌≡◌, ◌++◌, flat_map, string_bytes}
use Rattle.std.specs.List.{range_with_len}
use Rattle.command_model.specs.Listing.{later_number}
use Rattle.command_model.proofs.listing.push_later_numbers.Given as goal

abbrev pub invariant-numbers : goal.invariant-numbers
invariant-numbers l = string_bytes l.text ≡ string_bytes l.fn.text ++ flat_map (later_number l.number) (range_with_len l.from l.i)
