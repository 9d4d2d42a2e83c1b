use Rattle.lane_permute.proofs.WordPlaces.{exchange_bit}
use Rattle.lane_permute.proofs.exchanges.exchanged.Goals as goal

pub returns : goal.returns
returns c s h = exchange_bit c.args.x c.args.stay c.args.low c.args.by s h
