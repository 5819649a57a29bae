use Rattle.std.proofs.Common.{◌≡◌, rules}
use Rattle.mp4_cut.specs.Mdat.{mdat_header}
use Rattle.mp4_cut.proofs.mdat.put_mdat_header.Goals as goal

pub returns : goal.returns
unfolding mdat_header
returns g c =
    let long : mdat_header c.args.bytes ≡ c.as_slice.result.now = search rules in
    rw long c.put.ensures.puts
