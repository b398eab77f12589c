use Rattle.fx_net.proofs.Filling.{put_rows_stand}
use Rattle.fx_net.proofs.laws.rows_stand.Goals as goal

pub returns : goal.returns
returns c = put_rows_stand
