-- The bounds of the numbers, strings and lists of a message are those of the values.
pub use Rattle.fop_types.specs.Limits.{unit_range, max_unit, max_hyper, max_mode, max_mask, max_data, min_attr_name, max_attr_name, max_attr_value, max_item_name, max_volume_name, max_list, max_cells, max_index, is_between}
