use Rattle.std.proofs.Common.{◌≡◌, length, rules}
use Rattle.fx_cert.specs.Lines.{lines_of}
use Rattle.fx_cert.proofs.Sound.{reads_fit}
use Rattle.fx_cert.proofs.reader.certificate_in.Goals as goal

pub certificate_with-requires : goal.certificate_with-requires
certificate_with-requires c =
    let rows : c.len.result ≡ length c.in_ok-bounds.bounds.items = search (rules, c.len.ensures) in
    reads_fit (lines_of c.args.bytes.now) (lines_of c.in_ok-length.rest.now) (lines_of c.in_ok-bounds.rest.now)
    c.in_ok-length.length c.in_ok-bounds.bounds.items c.in_ok-errors.errors.items
    c.in_ok-length.ensures.gives c.in_ok-bounds.ensures.gives (rw rows at c.in_ok-errors.ensures)
