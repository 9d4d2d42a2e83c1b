use Rattle.emu_model.proofs.Rows.{there, elsewhere, has_same}
use Rattle.emu_model.proofs.byte_laws.rows_are_written_in_place.Goals as goal

pub returns-clause-there : goal.returns-clause-there
returns-clause-there c bytes a k xs few lt has = there xs bytes a k few lt has

pub returns-clause-elsewhere : goal.returns-clause-elsewhere
returns-clause-elsewhere c bytes a q xs ne = elsewhere xs bytes a q ne

pub returns-clause-same_addresses : goal.returns-clause-same_addresses
returns-clause-same_addresses c bytes a q xs = has_same xs bytes a q
