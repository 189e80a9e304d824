use Rattle.records.specs.Records.{record_at}
use Rattle.records.proofs.RoundTrip.{reads_writings}
use Rattle.records.proofs.reader.Reader.record.Goals as goal

pub returns : goal.returns
unfolding record_at
returns c =
    let e = c.advance.ensures in
    record { value = e.value; stays = e.stays; bytes = e.bytes; law = reads_writings _ _ _ }
