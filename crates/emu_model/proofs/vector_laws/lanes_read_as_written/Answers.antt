use Rattle.emu_model.proofs.Written.{lanes_read, low_read, other_z, other_p, fields_read, fields_between, ffr_read, ffr_between}
use Rattle.emu_model.proofs.vector_laws.lanes_read_as_written.Goals as goal

pub returns-clause-lanes : goal.returns-clause-lanes
returns-clause-lanes c = lanes_read

pub returns-clause-low : goal.returns-clause-low
returns-clause-low c = low_read

pub returns-clause-other_z : goal.returns-clause-other_z
returns-clause-other_z c = other_z

pub returns-clause-fields : goal.returns-clause-fields
returns-clause-fields c = fields_read

pub returns-clause-between : goal.returns-clause-between
returns-clause-between c = fields_between

pub returns-clause-other_p : goal.returns-clause-other_p
returns-clause-other_p c = other_p

pub returns-clause-ffr : goal.returns-clause-ffr
returns-clause-ffr c = ffr_read

pub returns-clause-ffr_between : goal.returns-clause-ffr_between
returns-clause-ffr_between c = ffr_between
