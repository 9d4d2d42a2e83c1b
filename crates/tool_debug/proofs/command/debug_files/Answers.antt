use Rattle.std.proofs.Common.{ap}
use Rattle.debug_options.specs.Endings.{is_refused}
use Rattle.tool_debug.proofs.Endings.{handed_on}
use Rattle.tool_debug.proofs.command.debug_files.Goals as goal

pub returns-in_err-bytes-clause-refused : goal.returns-in_err-bytes-clause-refused
returns-in_err-bytes-clause-refused g c = handed_on _ c.from_residual.result c.from_residual.ensures.1 c.in_err-bytes.ensures

pub returns-in_err-input-clause-refused : goal.returns-in_err-input-clause-refused
returns-in_err-input-clause-refused g c = handed_on _ c.from_residual-in_err-input.result c.from_residual-in_err-input.ensures.1 c.in_err-input.ensures

pub returns-in_err-script-clause-refused : goal.returns-in_err-script-clause-refused
returns-in_err-script-clause-refused g c = handed_on _ c.from_residual-in_err-script.result c.from_residual-in_err-script.ensures.1 c.in_err-script.ensures

pub returns-in_err-table-clause-refused : goal.returns-in_err-table-clause-refused
returns-in_err-table-clause-refused g c = handed_on _ c.from_residual-in_err-table.result c.from_residual-in_err-table.ensures.1 c.in_err-table.ensures

pub returns-in_err-rows-clause-refused : goal.returns-in_err-rows-clause-refused
returns-in_err-rows-clause-refused g c = handed_on _ c.from_residual-in_err-rows.result c.from_residual-in_err-rows.ensures.1 c.in_err-rows.ensures

pub returns-in_err-read-clause-refused : goal.returns-in_err-read-clause-refused
returns-in_err-read-clause-refused g c = handed_on _ c.from_residual-in_err-read.result c.from_residual-in_err-read.ensures.1 (ap is_refused c.in_err-read.ensures)

pub returns-in_err-sources-clause-refused : goal.returns-in_err-sources-clause-refused
returns-in_err-sources-clause-refused g c = handed_on _ c.from_residual-in_err-sources.result c.from_residual-in_err-sources.ensures.1 (ap is_refused c.in_err-sources.ensures)
