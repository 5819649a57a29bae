use Rattle.mp4_recut_laws.proofs.EveryStreamLemmas.{every_sound_stream}
use Rattle.mp4_recut_laws.proofs.items.every_sound_stream.Goals as goal

pub returns : goal.returns
returns c = every_sound_stream
