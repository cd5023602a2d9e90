-- The reference grids hold, each by computation from the rules.
-- Assumes nothing.
use mathlib.Core.Path.{refl}
use lib.Count as Count
use lib.Ieee as Ieee
use Rattle.mesh.specs.Place.{same, base, level, lap, j_after, j_before, to_north, to_east, to_south, to_west, step, kid, kids, parent, around, home}
use Rattle.mesh.specs.Mesh.{touched, under, patch, has_kids, leaf, wall_h, wall_v, ends, sides, derived, flags}
use Rattle.mesh.specs.Jump.{coarse_beside, finer_beside}
use Rattle.mesh.specs.State.{cells, number, free_count, in_use, next_free}
use Rattle.mesh.specs.Picture.{fields, row_of, table, amounts}
use Rattle.mesh.specs.Decode.{decode}
use Rattle.mesh.specs.Test.{mesh_tests, corners_there, value_test, tests, valid, sound_tests, sound}
use Rattle.mesh.specs.Refusal.{refusal}
use Rattle.mesh.specs.Build.{full, next_level, levels, numbered, built}
use Rattle.mesh.specs.Deed.{any_ground}
use Rattle.mesh.specs.Request.{wanted, missing, loose_checks, checks, supply, give, fill, prune, effect, marked, request}
use Rattle.mesh.specs.Tape.{kinds, kind, run_from, run}
use Rattle.mesh.specs.Scan.{listed, walk, scan, scan_checks}
use Rattle.mesh.specs.Holding.{holds, leaf_holding, leaf_at}
use Rattle.mesh.specs.Lookup.{first_found, lookup, lookup_checks}
use Rattle.mesh.specs.Page.{decimal_in, decimal, hex_in, line, head_line, leaves, leaf_line, foot_line, body, page}
use Rattle.mesh.specs.LeafCounts.{leaf_count, counts_below, leaf_counts}
use Rattle.mesh.specs.Call.{lent_checks, lent_refusal, counted_checks, unless, check_call, build_checks, build_call, tape_call, scan_call, lookup_call, count_checks, count_call}
use Rattle.mesh.specs.Program.{refused_line, input_checks, grid_checks, tape_page, program}
use Rattle.mesh.specs.Grids.{Hold, grids}

-- every rule that the grids are worked out by
unfoldable pub rules : Unit {0}
unfolding same base level lap j_after j_before to_north to_east to_south to_west step kid kids parent around home touched under patch has_kids leaf wall_h wall_v ends sides derived flags coarse_beside finer_beside cells number free_count in_use next_free fields row_of table amounts decode mesh_tests corners_there value_test tests valid sound_tests sound refusal full next_level levels numbered built any_ground wanted missing loose_checks checks supply give fill prune effect marked request kinds kind run_from run listed walk scan scan_checks holds leaf_holding leaf_at first_found lookup lookup_checks decimal_in decimal hex_in line head_line leaves leaf_line foot_line body page leaf_count counts_below leaf_counts lent_checks lent_refusal counted_checks unless check_call build_checks build_call tape_call scan_call lookup_call count_checks count_call refused_line input_checks grid_checks tape_page program Count.count_leading_zeros Ieee.to_bits Ieee.size Ieee.span Ieee.climb
rules = tt

pub references : Hold grids
unfolding rules grids
references = (refl, (refl, (refl, (refl, (refl, (refl, (refl, (refl, (refl, (refl, (refl, (refl, (refl, (refl, (refl, (refl, (refl, (refl, (refl, (refl, (refl, (refl, (refl, (refl, (refl, (refl, (refl, (refl, (refl, (refl, (refl, (refl, (refl, (refl, (refl, (refl, (refl, (refl, (refl, (refl, (refl, (refl, (refl, (refl, (refl, (refl, (refl, (refl, (refl, (refl, (refl, (refl, (refl, (refl, (refl, (refl, (refl, (refl, (refl, (refl, (refl, (refl, (refl, (refl, (refl, (refl, (refl, tt)))))))))))))))))))))))))))))))))))))))))))))))))))))))))))))))))))
