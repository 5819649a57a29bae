use Rattle.mp4_pieces.proofs.WhatFitsLemmas.{fits_means, means_fits}
use Rattle.mp4_pieces.proofs.laws.what_fits.Goals as goal

pub returns : goal.returns
returns c cut rows = (fits_means cut rows, means_fits cut rows)
