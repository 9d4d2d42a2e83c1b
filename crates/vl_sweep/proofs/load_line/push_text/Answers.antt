use Rattle.vl_sweep.proofs.LoadAppended.{put_so}
use Rattle.vl_sweep.proofs.load_line.push_text.Goals as goal

pub returns : goal.returns
returns c = put_so c.args.lines.now.held c.put.new.sink.held c.args.text.now c.put.result c.put.ensures.bytes
