use Rattle.data_value.proofs.FlatLemmas.{value_at, kept_all, no_maps}
use Rattle.data_value.proofs.laws.places_have_values.Goals as goal

pub returns-clause-values : goal.returns-clause-values
returns-clause-values c = value_at

pub returns-clause-sorts : goal.returns-clause-sorts
returns-clause-sorts c = λ flat words a. kept_all flat.widths words flat.nodes flat.fits.widths_fit flat.fits.nodes_fit a

pub returns-clause-no_maps : goal.returns-clause-no_maps
returns-clause-no_maps c = λ flat k op args e. no_maps flat.widths flat.nodes k op args flat.fits.widths_fit flat.fits.nodes_fit e
