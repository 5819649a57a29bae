use Rattle.mp4_grammar.proofs.StreamRecordLemmas.{fragment_is, items_tracks}
use Rattle.mp4_grammar.proofs.laws.sound_fragments_are_accepted.Goals as goal

pub returns-clause-accepted : goal.returns-clause-accepted
returns-clause-accepted c meaning d moof mdat fits tracks sound near = fragment_is meaning d moof mdat tracks fits sound near

pub returns-clause-tracks : goal.returns-clause-tracks
returns-clause-tracks c meaning d is fits tracks sound near = items_tracks meaning is d tracks fits sound near
