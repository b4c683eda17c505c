use Rattle.zy_law_views.proofs.HonestFrames.{frame_lawful, read_lawful}
use Rattle.zy_law_views.proofs.Installing.{reading_of}
use Rattle.zy_law_views.proofs.frames.honest_frames.Goals as goal

pub returns : goal.returns
returns g c =
    let M = g.M.Machine in
    let reading = reading_of M.IsState M.rules c.showing.ensures.spelled c.installing.ensures.shown c.installing.ensures.stands in
    record {
      rows = λ interval r texts w s history frame ready kept honest. frame_lawful M.rules interval texts w r s history ready kept reading frame honest;
      heard = λ interval r texts w s history read ready kept honest. read_lawful M.rules interval texts w r s history ready kept reading read honest;
    }
