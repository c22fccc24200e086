use Rattle.edit_zip.proofs.ZipDone.{zip_stays_sound, zip_stays_closed, zip_stays_clear, zip_always_makes}
use Rattle.edit_zip.proofs.laws.zips_keep_the_mesh.Goals as goal

pub returns : goal.returns
returns c = record { kind = zip_always_makes; sound = zip_stays_sound; closed = zip_stays_closed; clear = zip_stays_clear }
