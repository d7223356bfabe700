use Rattle.lists.proofs.Copies.{put_back}
use Rattle.lists.proofs.put_words.Goals as goal

pub returns : goal.returns
returns c = search put_back
