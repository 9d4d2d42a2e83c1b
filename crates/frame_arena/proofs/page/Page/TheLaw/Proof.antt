-- A `&` to a page is made where one to its bytes is. Assumes `Logic`.
use Rattle.std.proofs.Common.{[]}
use base.Fraction.{full_share}
use denote.RawPtr.{lies_at}
use contract.BorrowLft.{⊑_static}
use denote.Param.Shared.{copy_shared}
use denote.Struct.Field.{RawPtr-field}
use denote.Struct.Laws.{RawPtr-copy}
use denote.Struct.Lending.{of_Lends, lent_at, lent_at_shr_laws, Lends-first, Lends-lies}
use denote.Shares.{Shares-less}
use Rattle.frame_arena.specs.Links.{Frame, around}
use Rattle.frame_arena.proofs.Frames.{frame_laws, frame_shares}
use Rattle.frame_arena.specs.contracts.page.Page as C
use Rattle.frame_arena.proofs.page.Page.TheLaw.Statement.{statement}

pub shares : statement
shares = of_Lends C.struct C.the_codes C.the_heap C.the_lent (λ d p. lent_at_shr_laws Frame frame_laws d.at d.bytes) (copy_shared RawPtr-field RawPtr-copy, tt)
    (λ M 𝓤 𝓛 d p. Lends-first 𝓛 (lies_at Frame full_share d.at d.bytes) (around d.at) (lent_at Frame d.at d.bytes) (C.the_row).lives (Lends-lies 𝓛 Frame (C.the_row).lives d.at d.bytes (Shares-less 𝓛 Frame [] (C.the_row).lives (⊑_static (C.the_row).lives) (frame_shares 𝓛) d.bytes)))
