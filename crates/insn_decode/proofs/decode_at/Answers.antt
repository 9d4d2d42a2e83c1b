use Rattle.std.proofs.Common.{◌≡◌, ◌∙◌, rules}
use Rattle.emu_run.specs.ByTable.{a64, sve}
use Rattle.insn_decode.proofs.decode_at.Goals as goal

pub returns-then-may_be_sve-clause-table : goal.returns-then-may_be_sve-clause-table
returns-then-may_be_sve-clause-table g c =
    let mapped : c.map.result ≡ sve c.decode_sve_word.result = search rules in
    mapped ∙ c.decode_sve_word.ensures.table

pub returns-else-may_be_sve-clause-table : goal.returns-else-may_be_sve-clause-table
returns-else-may_be_sve-clause-table g c =
    let mapped : c.map-else-may_be_sve.result ≡ a64 c.decode_a64_word.result = search rules in
    mapped ∙ c.decode_a64_word.ensures.table
